-- What an open connection stands for.
use Rattle.served_instance.specs.declared.open_connection.OpenConnection.{OpenConnection}
use Rattle.served_instance.specs.StandsFor.{ServedConnection}

abbrev pub connection_shown : OpenConnection → ServedConnection
connection_shown kept = record { number = kept.number; connection = kept.connection }
