-- Arguments as values: numbers, gains, switches, forms of files and byte orders.
use Rattle.std.specs.Prelude.{Bool, true, false, ℕ, ℤ, pos, neg_ℤ, nat_le, ◌==◌, ◌&&◌, List, []}
use Rattle.std.specs.Prelude.{◌∷◌, length, Option, Some, None, codes, option_and_then, option_map, if◌then◌else◌}
use Rattle.std.specs.Str.{all_ascii_digits, bytes_eq}
use Rattle.std.specs.Str.Parse.{digits_value}
use Rattle.af_sound.specs.declared.head.SoundForm.{SoundForm}
use Rattle.af_sound.specs.declared.head.SoundForm.TheVariants.{Au, Wave}
use Rattle.af_wire.specs.declared.order.Order.{Order}
use Rattle.af_wire.specs.declared.order.Order.TheVariants.{Big, Little}

-- the number that decimal digits state, if it lies between these two
abbrev pub number_in : ℕ → ℕ → List ℕ → Option ℕ
number_in low high text =
    if nat_le 1 (length text) && all_ascii_digits text && nat_le low (digits_value 10 text) && nat_le (digits_value 10 text) high
    then Some (digits_value 10 text) else None

-- a gain of -30 to 30 decibels, whose digits may have a minus sign before them
abbrev pub gain_in : List ℕ → Option ℤ
gain_in [] = None
gain_in (c ∷ text) =
    if c == 45 then option_map (λ n. neg_ℤ (pos n)) (number_in 0 30 text) else option_map (λ n. pos n) (number_in 0 30 (c ∷ text))

-- a switch: on by the first word, off by the second
abbrev pub switch_in : (when otherwise : List ℕ) → List ℕ → Option Bool
switch_in when otherwise text = if bytes_eq text when then Some true else if bytes_eq text otherwise then Some false else None

-- the form of a sound file by its name, or none if the name says that the bytes are samples
abbrev pub form_in : List ℕ → Option (Option SoundForm)
form_in text =
    if bytes_eq text (codes "raw") then Some None
    else if bytes_eq text (codes "au") then Some (Some Au)
    else if bytes_eq text (codes "wave") then Some (Some Wave)
    else None

-- the byte order of a connection, by its name
abbrev pub order_in : List ℕ → Option Order
order_in text =
    if bytes_eq text (codes "big") then Some Big
    else if bytes_eq text (codes "little") then Some Little
    else None

-- what comes of a value that is there; `do` writes several of these one below another
infixl 10 ◌>>=◌
abbrev pub ◌>>=◌ : {X Y : Type 0} → Option X → (X → Option Y) → Option Y
found >>= next = option_and_then next found

-- an optional value
abbrev pub if_there : {X : Type 0} → (List ℕ → Option X) → Option (List ℕ) → Option (Option X)
if_there value_in None = Some None
if_there value_in (Some text) = option_map (λ x. Some x) (value_in text)
