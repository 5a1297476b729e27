-- The command line as `clap` reads it, and what its words ask for.
use Rattle.std.specs.Prelude.{ℕ, pos, Bool, true, false, ◌&&◌, ◌||◌, ◌==◌, ◌^◌, nat_le, nat_lt, List, [], ◌∷◌, Option, Some, None, codes, if◌then◌else◌, is_none, is_some, option_map, option_and_then}
use Rattle.std.specs.Str.{bytes_eq}
use Rattle.std.specs.Str.Parse.{without_leading_plus}
use Rattle.numerals.specs.Number.{decimal_value, is_decimal}
use Rattle.command_line.specs.Size.{size_of}
use Rattle.instance_limits.specs.Limits.{LimitsValue, usual_limits}
use Rattle.clap.specs.Words.{App, Row, Rule, Shape, Text, all_of, first_of, new_app, new_rule, one_of, with_rule, with_subcommand}
use Rattle.clap.specs.declared.builder.action.ArgAction.TheVariants.{Append, Set}
use Rattle.clap.specs.declared.builder.value_parser.ValueParser.{ValueParser}
use Rattle.clap.specs.declared.builder.value_parser.ValueParser.TheVariants.{NonEmptyString, Signed, Unsigned}

-- ---- what there is

-- a file that has to be named
abbrev pub file_rule : Rule
file_rule = record (new_rule (codes "FILE")) { required = true; action = Some Set }

-- `--name VALUE`
abbrev pub long_option : Text → Rule
long_option name = record (new_rule name) { long = Some name; value_names = 1; action = Some Set }

-- `--name VALUE`, where the value has a byte at least
abbrev pub optional : Text → Rule
optional name = record (long_option name) { parser = Some NonEmptyString }

-- a whole number from 0 to 2^63 - 1
abbrev pub count_parser : ValueParser
count_parser = Unsigned 0 9223372036854775807

abbrev pub port_rule : Rule
port_rule =
    record (long_option (codes "port"))
    { required = true; parser = Some (Signed (pos 1) (pos 65535)) }

-- the same where something else may be asked for
abbrev pub asked_port_rule : Rule
asked_port_rule = record port_rule { required = false }

abbrev pub send_rule : Rule
send_rule = record (long_option (codes "send")) { required = true }

-- what `--want` may be is said where it is read
abbrev pub want_rule : Rule
want_rule = record (long_option (codes "want")) { required = true }

abbrev pub turns_rule : Rule
turns_rule =
    record (long_option (codes "turns"))
    { parser = Some count_parser; defaults = codes "1000000000" ∷ [] }

-- what `--turns` of a server may be is said where it is read
abbrev pub lasting_rule : Rule
lasting_rule = record (long_option (codes "turns")) { defaults = codes "1000000000" ∷ [] }

abbrev pub listen_rule : Rule
listen_rule = record (long_option (codes "listen")) { defaults = codes "127.0.0.1" ∷ [] }

-- what the numbers of all instances may be is said where they are read
abbrev pub blobs_rule : Rule
blobs_rule = record (long_option (codes "blobs")) { defaults = codes "65536" ∷ [] }

abbrev pub results_rule : Rule
results_rule = record (long_option (codes "results")) { defaults = codes "10000" ∷ [] }

abbrev pub result_bytes_rule : Rule
result_bytes_rule =
    record (long_option (codes "result-bytes")) { defaults = codes "67108864" ∷ [] }

abbrev pub window_rule : Rule
window_rule = record (long_option (codes "window")) { defaults = codes "65535" ∷ [] }

abbrev pub metrics_rule : Rule
metrics_rule = optional (codes "metrics")

abbrev pub stop_rule : Rule
stop_rule = optional (codes "stop")

abbrev pub end_rule : Rule
end_rule = optional (codes "end")

abbrev pub links_rule : Rule
links_rule = optional (codes "links")

abbrev pub host_rule : Rule
host_rule = record (long_option (codes "host")) { defaults = codes "127.0.0.1" ∷ [] }

abbrev pub instance_rule : Rule
instance_rule = optional (codes "instance")

-- from 1 to 3600
abbrev pub seconds_rule : Rule
seconds_rule =
    record (long_option (codes "seconds"))
    { parser = Some (Unsigned 1 3600); defaults = codes "5" ∷ [] }

abbrev pub work_rule : Rule
work_rule = record (long_option (codes "work")) { required = true }

abbrev pub launcher_rule : Rule
launcher_rule = long_option (codes "launcher")

-- what `--made-trees` may be is said where it is read
abbrev pub made_trees_rule : Rule
made_trees_rule = record (long_option (codes "made-trees")) { defaults = codes "0" ∷ [] }

-- one word or more for instances
abbrev pub instances_rule : Rule
instances_rule =
    record (new_rule (codes "NAME:PORT:QUOTA:SLOTS[:PARENT]"))
    { required = true; action = Some Append }

-- with the four options for the numbers of all instances
abbrev pub with_limits : App → App
with_limits a =
    with_rule (with_rule (with_rule (with_rule a
    blobs_rule) results_rule) result_bytes_rule) window_rule

-- a command that carries out the script of a file
abbrev pub script_command : Text → Shape
script_command name = (with_rule (with_limits (new_app name)) file_rule).top

abbrev pub probe_command : Shape
probe_command =
    (with_rule (with_rule (with_rule (with_rule (new_app (codes "probe"))
    port_rule) send_rule) want_rule)
    turns_rule).top

abbrev pub check_command : Shape
check_command =
    (with_rule (with_rule (with_rule (with_rule (with_rule (new_app (codes "check"))
    asked_port_rule) host_rule) instance_rule)
    seconds_rule) metrics_rule).top

-- with the options for where and how long is served, and for what runs and watches
abbrev pub with_ways : App → App
with_ways a =
    with_rule (with_rule (with_rule (with_rule (with_rule (with_rule (with_rule (with_rule
    (with_rule a work_rule) launcher_rule) made_trees_rule) lasting_rule) listen_rule) metrics_rule)
    stop_rule) end_rule) links_rule

abbrev pub serve_command : Shape
serve_command =
    (with_rule (with_limits (with_ways (new_app (codes "serve")))) instances_rule).top

-- a command that tells its version
abbrev pub with_version : App → App
with_version a = record a { top = record a.top { has_version = true } }

-- with the two commands that carry out scripts
abbrev pub with_scripts : App → App
with_scripts a =
    with_subcommand (with_subcommand a (script_command (codes "unary")))
    (script_command (codes "replay"))

-- the program, its version and its five commands
abbrev pub command_line : App
command_line =
    with_subcommand (with_subcommand (with_subcommand
    (with_scripts (with_version (new_app (codes "remoted"))))
    probe_command) check_command) serve_command

-- ---- what is asked for

pub data InvocationValue : Type 0 where
  -- the script of calls of a file, or of standard input, by instances with these numbers
  unary : Option Text → LimitsValue → InvocationValue
  -- the script of events of a file, by instances with these numbers
  replay : Text → LimitsValue → InvocationValue
  -- to serve the instances of these words at an address, for so many turns, and to have programs
  -- started by a launcher, or as they are; to keep so many bytes of made trees, to write figures to
  -- a file, to end by one, and to end jobs by another; and what becomes of links
  serve : (work : Text) (launcher : Option Text) (made_trees turns : ℕ) (listen : Text)
      (metrics stop end links : Option Text) (limits : LimitsValue) (instances : List Text)
      → InvocationValue
  -- to send a file's bytes to a port, and to wait for so many, for so many turns
  probe : (port : ℕ) (send : Text) (want turns : ℕ) → InvocationValue
  -- to ask the server at a port of a host, for an instance or for the port's own, and to wait for
  -- so many seconds
  check : (port : ℕ) (host : Text) (instance : Option Text) (seconds : ℕ) → InvocationValue
  -- to tell the figures in a file, those of an instance or all
  figures : (metrics : Text) (instance : Option Text) → InvocationValue

-- the number below a bound that a text writes in decimal, with a plus sign or none
abbrev pub number_below : ℕ → Text → Option ℕ
number_below bound text =
    let digits = without_leading_plus text in
    if is_decimal digits && nat_lt (decimal_value digits) bound
    then Some (decimal_value digits) else None

-- the number below 2^64 that was given under a name
abbrev pub number_of : Text → List Row → Option ℕ
number_of name given = option_and_then (number_below (2 ^ 64)) (one_of name given)

-- the number, if it is a port's
abbrev pub port_of : ℕ → Option ℕ
port_of number = if nat_lt number (2 ^ 16) then Some number else None

-- the number, if it is at most 2^63 - 1
abbrev pub count_of : ℕ → Option ℕ
count_of number = if nat_lt number (2 ^ 63) then Some number else None

-- how much was given under a name, with a unit or none, if it is at most 2^63 - 1
abbrev pub amount_of : Text → List Row → Option ℕ
amount_of name given =
    option_and_then count_of (option_and_then size_of (first_of name given))

-- the numbers may be chosen for an instance: those of `IsLimits`
abbrev pub are_limits : LimitsValue → Bool
are_limits limits =
    nat_le 1 limits.blobs && nat_le limits.blobs (2 ^ 31) && nat_le limits.results (2 ^ 31)
    && nat_le 4194304 limits.result_bytes && nat_le limits.result_bytes (2 ^ 31)
    && nat_le 65535 limits.window && nat_lt limits.window (2 ^ 31)

-- the numbers, if they may be chosen
abbrev pub chosen : LimitsValue → Option LimitsValue
chosen limits = if are_limits limits then Some limits else None

-- the numbers that were given for all instances
abbrev pub limits_given : List Row → Option LimitsValue
limits_given given =
    option_and_then (λ blobs. option_and_then (λ results. option_and_then (λ result_bytes.
    option_and_then (λ window. chosen (record {
      blobs = blobs;
      results = results;
      result_bytes = result_bytes;
      window = window;
    }))
    (amount_of (codes "window") given)) (amount_of (codes "result-bytes") given))
    (amount_of (codes "results") given)) (amount_of (codes "blobs") given)

abbrev pub probe_of : List Row → Option InvocationValue
probe_of given =
    option_and_then (λ port. option_and_then (λ send. option_and_then (λ want.
    option_map (λ turns. probe port send want turns) (number_of (codes "turns") given))
    (amount_of (codes "want") given)) (first_of (codes "send") given))
    (option_and_then port_of (number_of (codes "port") given))

abbrev pub question_of : List Row → Option InvocationValue
question_of given =
    option_and_then (λ port. option_and_then (λ host.
    option_map (λ seconds. check port host (first_of (codes "instance") given) seconds)
    (number_of (codes "seconds") given)) (first_of (codes "host") given))
    (option_and_then port_of (number_of (codes "port") given))

-- a file's figures, where no port is given beside it; or else a server's answer
abbrev pub check_of : List Row → Option InvocationValue
check_of given =
    if is_none (first_of (codes "metrics") given) then question_of given
    else if is_some (first_of (codes "port") given) then None
    else option_map (λ metrics. figures metrics (first_of (codes "instance") given))
    (first_of (codes "metrics") given)

-- for how many turns a server lasts: for as many as a number says, or for 2^64 - 1
abbrev pub lasting_of : List Row → Option ℕ
lasting_of given =
    option_and_then (λ text. if bytes_eq text (codes "endless") then Some 18446744073709551615
    else option_and_then count_of (number_of (codes "turns") given))
    (first_of (codes "turns") given)

-- how many bytes made trees have at most: none, where no launcher is given
abbrev pub made_trees_of : List Row → Option ℕ
made_trees_of given =
    option_and_then (λ bytes. if bytes == 0 || is_some (first_of (codes "launcher") given)
    then Some bytes else None)
    (amount_of (codes "made-trees") given)

abbrev pub serve_of : List Row → Option InvocationValue
serve_of given =
    option_and_then (λ work. option_and_then (λ made_trees. option_and_then (λ turns.
    option_and_then (λ listen. option_and_then (λ limits.
    option_map (λ instances. serve work (first_of (codes "launcher") given) made_trees turns listen
    (first_of (codes "metrics") given) (first_of (codes "stop") given)
    (first_of (codes "end") given) (first_of (codes "links") given) limits instances)
    (all_of (codes "NAME:PORT:QUOTA:SLOTS[:PARENT]") given)) (limits_given given))
    (first_of (codes "listen") given))
    (lasting_of given)) (made_trees_of given)) (first_of (codes "work") given)

abbrev pub file_or_peer_by : Text → List Row → Option InvocationValue
file_or_peer_by name given =
    if bytes_eq name (codes "unary")
    then option_and_then (λ file. option_map (unary (Some file)) (limits_given given))
    (first_of (codes "FILE") given)
    else (if bytes_eq name (codes "replay")
    then option_and_then (λ file. option_map (replay file) (limits_given given))
    (first_of (codes "FILE") given)
    else (if bytes_eq name (codes "check") then check_of given else probe_of given))

-- what a command of this name asks for, with what was given to it
abbrev pub invocation_by : Text → List Row → Option InvocationValue
invocation_by name given =
    if bytes_eq name (codes "serve") then serve_of given else file_or_peer_by name given

-- what the command that the words name asks for; where they name none, it is the script on standard
-- input, with the usual numbers
abbrev pub invocation_of : Option (Text × List Row) → Option InvocationValue
invocation_of None = Some (unary None usual_limits)
invocation_of (Some (name, given)) = invocation_by name given
