-- Which events of telephone lines a tool is asked for: of which kinds, and of which devices.
use Rattle.std.specs.Prelude.{ℕ, ◌+◌, ◌-◌, ◌*◌, ◌==◌, if◌then◌else◌, Bool, true, false, List, [], ◌∷◌, codes}
use Rattle.std.specs.Prelude.{Option, Some, None, option_and_then, option_map}
use Rattle.std.specs.List.{slice_split}
use Rattle.std.specs.Str.{bytes_eq}
use Rattle.af_limits.specs.Limits.{most_devices}
use Rattle.af_wire.specs.declared.event.EventKind.{EventKind}
use Rattle.af_wire.specs.declared.event.EventKind.TheVariants as kind
use Rattle.af_cli.specs.Numbers.{number_in}
use Rattle.af_cli.specs.declared.events.DeviceChoice.{DeviceChoice}
use Rattle.af_cli.specs.declared.events.DeviceChoice.TheVariants as choice
use Rattle.af_cli.specs.declared.events.EventKinds.{EventKinds}

-- the name of a kind of events
abbrev pub kind_name : EventKind → List ℕ
kind_name kind.Ring = codes "ring"
kind_name kind.Digit = codes "digit"
kind_name kind.Current = codes "loop"
kind_name kind.Hook = codes "hook"

-- the kind of a name
abbrev pub kind_named : List ℕ → Option EventKind
kind_named name =
    if bytes_eq name (kind_name kind.Ring) then Some kind.Ring
    else if bytes_eq name (kind_name kind.Digit) then Some kind.Digit
    else if bytes_eq name (kind_name kind.Current) then Some kind.Current
    else if bytes_eq name (kind_name kind.Hook) then Some kind.Hook
    else None

-- a kind is among these
abbrev pub has_kind : EventKinds → EventKind → Bool
has_kind kinds kind.Ring = kinds.ring
has_kind kinds kind.Digit = kinds.digit
has_kind kinds kind.Current = kinds.current
has_kind kinds kind.Hook = kinds.hook

-- the mask by which a server is asked for kinds: the sum of their bits
abbrev pub bit_of : Bool → ℕ
bit_of true = 1
bit_of false = 0

abbrev pub mask_of : EventKinds → ℕ
mask_of kinds = bit_of kinds.ring + 2 * bit_of kinds.hook + 4 * bit_of kinds.current + 8 * bit_of kinds.digit

-- these kinds, and one more
abbrev pub with_kind : EventKinds → EventKind → EventKinds
with_kind kinds kind.Ring = record kinds { ring = true }
with_kind kinds kind.Digit = record kinds { digit = true }
with_kind kinds kind.Current = record kinds { current = true }
with_kind kinds kind.Hook = record kinds { hook = true }

abbrev pub no_kinds : EventKinds
no_kinds = record { ring = false; digit = false; current = false; hook = false }

-- the kinds with these names, and those that there are before; none if a name is that of no kind
abbrev pub kinds_of : EventKinds → List (List ℕ) → Option EventKinds
kinds_of kinds [] = Some kinds
kinds_of kinds (name ∷ names) = option_and_then (λ kind. kinds_of (with_kind kinds kind) names) (kind_named name)

-- the kinds whose names a text lists, with a comma, which is 44, between two
unfoldable pub kinds_in : List ℕ → Option EventKinds
kinds_in text = kinds_of no_kinds (slice_split (λ b. b == 44) text)

-- the devices that a text names: one by its number, or all
abbrev pub choice_in : List ℕ → Option DeviceChoice
choice_in text =
    if bytes_eq text (codes "all") then Some choice.All
    else option_map (λ number. choice.One number) (number_in 0 (most_devices - 1) text)
