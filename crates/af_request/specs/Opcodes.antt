-- The opcode of each request: the first byte of its frame. A reply and an error name it to say what they answer.
use Rattle.std.specs.Prelude.{ℕ}

-- a setup has none: 0 stands for it in its reply and its error
abbrev pub setup : ℕ
setup = 0

abbrev pub no_op : ℕ
no_op = 1

abbrev pub get_time : ℕ
get_time = 2

abbrev pub create_ac : ℕ
create_ac = 3

abbrev pub change_ac : ℕ
change_ac = 4

abbrev pub free_ac : ℕ
free_ac = 5

abbrev pub play : ℕ
play = 6

abbrev pub «record» : ℕ
«record» = 7

abbrev pub select_events : ℕ
select_events = 8

abbrev pub set_controls : ℕ
set_controls = 9

abbrev pub query_controls : ℕ
query_controls = 10

abbrev pub hook_switch : ℕ
hook_switch = 11

abbrev pub query_phone : ℕ
query_phone = 12
