-- The kinds of devices, by their backends.
use Rattle.std.specs.Prelude.{ℕ, List}
use Rattle.af_process.specs.Acts.{words_of}
use Rattle.af_world.specs.declared.card_kind.CardKind.{CardKind}
use Rattle.af_world.specs.declared.live.Kind.{Kind}
use Rattle.af_world.specs.declared.live.Kind.TheVariants as kind
use Rattle.af_world.specs.declared.lifecycle.ToldKind.{ToldKind}
use Rattle.af_world.specs.declared.lifecycle.ToldKind.TheVariants as told

-- silence, or the names of the two files that the device captures from and emits to
abbrev pub silence : ToldKind
silence = told.Silent

abbrev pub two_files : List ℕ → List ℕ → ToldKind
two_files input output = told.Files input output

-- what the device emitted a fortieth of a second before
abbrev pub its_own_sound : ToldKind
its_own_sound = told.Loop

-- a child program with this command line, which is started again so often; it is given the sound that the device emits
abbrev pub child_program : ℕ → List (List ℕ) → ToldKind
child_program restarts words = told.Codec restarts words

-- a program with this command line that the device has for itself, and that is started again so often
abbrev pub card_program : CardKind → ℕ → List (List ℕ) → ToldKind
card_program card restarts words = told.Card card restarts words

-- the most restarts
abbrev pub most_card_restarts : ℕ
most_card_restarts = 1000000

-- the observable part of a kind
abbrev pub told_kind : Kind → ToldKind
told_kind kind.Silent = silence
told_kind (kind.Files input output) = two_files input.now output.now
told_kind kind.Loop = its_own_sound
told_kind (kind.Codec restarts words) = child_program restarts (words_of words.now)
told_kind (kind.Card card restarts words) = card_program card restarts (words_of words.now)
