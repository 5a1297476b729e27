-- The numbers of the refusals of events.
use Rattle.std.specs.Prelude.{ℕ}
use Rattle.served_instance.specs.declared.refusal.EventRefusal.{EventRefusal}
use Rattle.served_instance.specs.declared.refusal.EventRefusal.TheVariants.{NoSuchInstance, NoSuchConnection, ConnectionExists, TooManyConnections, NoSuchJob, TimeWentBack, TookTooMuch, NoMemory}

abbrev pub code_of : EventRefusal → ℕ
code_of NoSuchInstance = 1
code_of NoSuchConnection = 2
code_of ConnectionExists = 3
code_of TooManyConnections = 4
code_of NoSuchJob = 5
code_of TimeWentBack = 6
code_of TookTooMuch = 7
code_of NoMemory = 8
