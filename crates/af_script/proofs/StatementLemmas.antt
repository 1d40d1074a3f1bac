-- What a script states keeps to the limits of devices and steps.
use Rattle.std.proofs.Common.{◌≡◌, ℕ, zero, suc, ◌+◌, ◌*◌, ◌<◌, ◌≤◌, Bool, true, false, cond, IsTrue, ◌&&◌, List, [], ◌∷◌, length, take, drop, refl, sym, ap, ◌∙◌, subst, arith, length-take}
use Rattle.std.specs.Prelude.{Option, Some, None, option_map, option_and_then, Result, Ok, Err, All, nat_lt, nat_le, nat_eq, bytes_eq, codes}
use Rattle.std.proofs.lemmas.Bool.{and_parts}
use Rattle.std.proofs.lemmas.Bool.Decides.{nat_tests}
use Rattle.std.proofs.lemmas.List.Elements.{All-nil, All-cons}
use Rattle.af_sample.specs.declared.sample_type.SampleType.{SampleType}
use Rattle.af_sample.specs.Rates.{is_listed_rate, IsListedRate}
use Rattle.af_sample.specs.Channels.{IsChannelCount}
use Rattle.af_phone.specs.Lines.{is_change, is_digit}
use Rattle.af_phone.specs.declared.line.LineChange.{LineChange}
use Rattle.af_phone.specs.declared.line.LineChange.TheVariants as change
use Rattle.af_world.specs.declared.script.DeviceSpec.{DeviceSpec}
use Rattle.af_world.specs.declared.script.Step.{Step}
use Rattle.af_world.specs.declared.script.Step.TheVariants as step
use Rattle.af_world.specs.Outside.{IsStep, IsCapture, IsRoom, spec_has_line, frame_bytes_at}
use Rattle.std.specs.Result.{result_ok}
use Rattle.af_limits.specs.Limits.{most_links, longest_tick, longest_send}
use Rattle.hex.specs.Hex.{decode_of}
use Rattle.af_script.specs.declared.statement.LineKind.{LineKind}
use Rattle.af_script.specs.declared.statement.LineKind.TheVariants as kind
use Rattle.af_script.specs.Words.{number_of, number_within, only_if, then_some, bytes_within}
use Rattle.af_script.specs.Statement.{last_link, line_kind_of, is_device_kind, type_of, rate_of, channels_stated, after_channels, line_stated, device_at, device_with, device_of, link_of, device_number, line_number, switch_of, digit_of, change_of, line_step_of, with_number, with_value, room_stated, capture_of, tick_of, idle_of, step_of_kind, step_of, is_device_line}
use Rattle.af_script.specs.Script.{StatedScript, ScriptLine, most_devices, device_lines, with_first, each_says, first_number, with_steps, with_config, script_by, script_of, entries}
use Rattle.af_script.specs.Lines.{lines}

abbrev some_or : {A : Type 0} → A → Option A → A
some_or d None = d
some_or d (Some x) = x

some_same : {A : Type 0} {x y : A} → Some x ≡ Some y → x ≡ y
some_same {A} {x} {y} e = ap (some_or x) e

then_some_from : {A : Type 0} (b : Bool) (x y : A) → then_some b x ≡ Some y → (b ≡ true) × (x ≡ y)
then_some_from true x y e = (refl, some_same e)
then_some_from false x y e = cc e

-- the value that `option_and_then` got
and_then_from : {A B : Type 0} (f : A → Option B) (o : Option A) (y : B) → option_and_then f o ≡ Some y → (x : A) × (o ≡ Some x) × (f x ≡ Some y)
and_then_from f None y e = cc e
and_then_from f (Some x) y e = (x, refl, e)

-- the value that `option_map` got
map_from : {A B : Type 0} (f : A → B) (o : Option A) (y : B) → option_map f o ≡ Some y → (x : A) × (o ≡ Some x) × (f x ≡ y)
map_from f None y e = cc e
map_from f (Some x) y e = (x, refl, some_same e)

-- the test of `only_if`
only_if_from : {A : Type 0} (test : A → Bool) (x y : A) → only_if test x ≡ Some y → (test x ≡ true) × (x ≡ y)
only_if_from test x y = then_some_from (test x) x y

number_from : (low high : ℕ) (word : List ℕ) (n : ℕ) → number_within low high word ≡ Some n → (low ≤ n) × (n ≤ high)
number_from low high word n e =
    let a = and_then_from (only_if (λ m. nat_le low m && nat_le m high)) (number_of word) n e in
    let b = only_if_from (λ m. nat_le low m && nat_le m high) a.0 n a.2 in
    let both = and_parts (nat_le low a.0) (nat_le a.0 high) b.0 in
    let is = b.1 in
    (grind (arith, nat_tests), grind (arith, nat_tests))

-- a rate that is stated is listed
rate_from : (word : List ℕ) (rate : ℕ) → rate_of word ≡ Some rate → is_listed_rate rate ≡ true
rate_from word rate e =
    let a = and_then_from (only_if is_listed_rate) (number_of word) rate e in
    let b = only_if_from is_listed_rate a.0 rate a.2 in
    subst (λ r. is_listed_rate r ≡ true) b.1 b.0

-- a device that may be stated
record IsDevice (d : DeviceSpec) : Type 0 where
  rate : IsListedRate d.rate
  channels : IsChannelCount d.channels

stated_count : (ws : List (List ℕ)) → IsChannelCount (channels_stated ws)
stated_count [] = refl
stated_count (word ∷ ws) = elim (bytes_eq word (codes "stereo")) as (λ t. IsChannelCount (cond t 2 1)) [ true ↦ refl | false ↦ refl ]

device_is : (ty : SampleType) (rate start channels : ℕ) (line : Bool) (d : DeviceSpec) → device_at ty rate start channels line ≡ d → is_listed_rate rate ≡ true → IsChannelCount channels → IsDevice d
device_is ty rate start channels line d e listed count =
    subst IsDevice e (let s : IsDevice (device_at ty rate start channels line) = record { rate = listed; channels = count } in s)

device_with_from : (arguments : List (List ℕ)) (d : DeviceSpec) → device_with arguments ≡ Some d → IsDevice d
device_with_from [] d e = cc e
device_with_from (ty ∷ []) d e = cc e
device_with_from (ty ∷ rate ∷ []) d e = cc e
device_with_from (ty ∷ rate ∷ start ∷ rest) d e =
    let n = channels_stated rest in
    let line = line_stated (after_channels rest) in
    let a = and_then_from (λ t. option_and_then (λ r. option_and_then (λ s. option_map (device_at t r s n) line) (number_within 0 4294967295 start)) (rate_of rate)) (type_of ty) d e in
    let b = and_then_from (λ r. option_and_then (λ s. option_map (device_at a.0 r s n) line) (number_within 0 4294967295 start)) (rate_of rate) d a.2 in
    let c = and_then_from (λ s. option_map (device_at a.0 b.0 s n) line) (number_within 0 4294967295 start) d b.2 in
    let f = map_from (device_at a.0 b.0 c.0 n) line d c.2 in
    device_is a.0 b.0 c.0 n f.0 d f.2 (rate_from rate b.0 b.1) (stated_count rest)

device_from : (ws : List (List ℕ)) (d : DeviceSpec) → device_of ws ≡ Some d → IsDevice d
device_from [] d e = cc e
device_from (name ∷ arguments) d e =
    (elim (is_device_kind (line_kind_of name)) as (λ t. cond t (device_with arguments) None ≡ Some d → IsDevice d) [
      | true ↦ λ h. device_with_from arguments d h
      | false ↦ λ h. cc h
    ]) e

-- a step of a number alone
with_number_from : (number_in : List ℕ → Option ℕ) (make : ℕ → Step) (config : List DeviceSpec) (arguments : List (List ℕ)) (s : Step) → ((word : List ℕ) (n : ℕ) → number_in word ≡ Some n → IsStep config (make n)) →
    with_number number_in make arguments ≡ Some s → IsStep config s
with_number_from number_in make config [] s fits e = cc e
with_number_from number_in make config (number ∷ w ∷ ws) s fits e = cc e
with_number_from number_in make config (number ∷ []) s fits e =
    let a = map_from make (number_in number) s e in
    subst (IsStep config) a.2 (fits number a.0 a.1)

-- a step of a number and a value
with_value_from : {X : Type 0} (number_in : List ℕ → Option ℕ) (value_in : List ℕ → Option X) (make : ℕ → X → Step) (config : List DeviceSpec) (arguments : List (List ℕ)) (s : Step) →
    ((number value : List ℕ) (n : ℕ) (x : X) → number_in number ≡ Some n → value_in value ≡ Some x → IsStep config (make n x)) → with_value number_in value_in make arguments ≡ Some s → IsStep config s
with_value_from number_in value_in make config [] s fits e = cc e
with_value_from number_in value_in make config (number ∷ []) s fits e = cc e
with_value_from number_in value_in make config (number ∷ value ∷ w ∷ ws) s fits e = cc e
with_value_from number_in value_in make config (number ∷ value ∷ []) s fits e =
    let a = and_then_from (λ n. option_map (make n) (value_in value)) (number_in number) s e in
    let b = map_from (make a.0) (value_in value) s a.2 in
    subst (IsStep config) b.2 (fits number value a.0 b.0 a.1 b.1)

link_from : (word : List ℕ) (k : ℕ) → link_of word ≡ Some k → k < most_links
link_from word k e = let n = number_from 0 last_link word k e in omega (arith, n.1)

size_within : (low high m n : ℕ) → m ≡ n → nat_le low m ≡ true → nat_le m high ≡ true → (low ≤ n) × (n ≤ high)
size_within low high m n e above below = (grind (arith, nat_tests), grind (arith, nat_tests))

bytes_from : (low high : ℕ) (word bytes : List ℕ) → bytes_within low high word ≡ Some bytes → (low ≤ length bytes) × (length bytes ≤ high)
bytes_from low high word bytes e =
    let a = and_then_from (only_if (λ (bs : List ℕ). nat_le low (length bs) && nat_le (length bs) high)) (result_ok (decode_of word)) bytes e in
    let b = only_if_from (λ (bs : List ℕ). nat_le low (length bs) && nat_le (length bs) high) a.0 bytes a.2 in
    let both = and_parts (nat_le low (length a.0)) (nat_le (length a.0) high) b.0 in
    size_within low high (length a.0) (length bytes) (ap length b.1) both.0 both.1

room_stated_from : (word : List ℕ) (room : Option ℕ) → room_stated word ≡ Some room → IsRoom room
room_stated_from word room e =
    (elim (bytes_eq word (codes "all")) as (λ t. cond t (Some None) (option_map Some (number_within 0 4294967295 word)) ≡ Some room → IsRoom room) [
      | true ↦ λ h. subst IsRoom (some_same h) tt
      | false ↦ λ h.
          let a = map_from Some (number_within 0 4294967295 word) room h in
          let n = number_from 0 4294967295 word a.0 a.1 in
          subst IsRoom a.2 (omega (arith, n.1))
    ]) e

device_number_from : (config : List DeviceSpec) (word : List ℕ) (d : ℕ) → device_number config word ≡ Some d → d < length config
device_number_from config word d e =
    let a = and_then_from (only_if (λ x. nat_lt x (length config))) (number_of word) d e in
    let b = only_if_from (λ x. nat_lt x (length config)) a.0 d a.2 in
    let below = b.0 in
    let is = b.1 in
    grind (arith, nat_tests)

capture_from : (size : ℕ) (arguments : List (List ℕ)) (capture : Option (List ℕ)) → capture_of size arguments ≡ Some capture → IsCapture size capture
capture_from size [] capture e = subst (IsCapture size) (some_same e) tt
capture_from size (hex ∷ w ∷ ws) capture e = cc e
capture_from size (hex ∷ []) capture e =
    let a = map_from Some (bytes_within size size hex) capture e in
    let n = bytes_from size size hex a.0 a.1 in
    subst (IsCapture size) a.2 (omega (arith, n.0, n.1))

tick_is : (config : List DeviceSpec) (d n : ℕ) (captured : Option (List ℕ)) (s : Step) → step.Tick d n captured ≡ s → d < length config → 1 ≤ n → n ≤ longest_tick → IsCapture (n * frame_bytes_at config d) captured → IsStep config s
tick_is config d n captured s e there some few capture = subst (IsStep config) e (there, some, few, capture)

tick_from : (config : List DeviceSpec) (arguments : List (List ℕ)) (s : Step) → tick_of config arguments ≡ Some s → IsStep config s
tick_from config [] s e = cc e
tick_from config (device ∷ []) s e = cc e
tick_from config (device ∷ frames ∷ capture) s e =
    let a = and_then_from (λ d. option_and_then (λ n. option_map (step.Tick d n) (capture_of (n * frame_bytes_at config d) capture)) (number_within 1 longest_tick frames)) (device_number config device) s e in
    let b = and_then_from (λ n. option_map (step.Tick a.0 n) (capture_of (n * frame_bytes_at config a.0) capture)) (number_within 1 longest_tick frames) s a.2 in
    let c = map_from (step.Tick a.0 b.0) (capture_of (b.0 * frame_bytes_at config a.0) capture) s b.2 in
    let n = number_from 1 longest_tick frames b.0 b.1 in
    tick_is config a.0 b.0 c.0 s c.2 (device_number_from config device a.0 a.1) n.0 n.1 (capture_from (b.0 * frame_bytes_at config a.0) capture c.0 c.1)

line_number_from : (config : List DeviceSpec) (word : List ℕ) (d : ℕ) → line_number config word ≡ Some d → IsTrue (spec_has_line config d)
line_number_from config word d e =
    let a = and_then_from (only_if (spec_has_line config)) (device_number config word) d e in
    let b = only_if_from (spec_has_line config) a.0 d a.2 in
    subst (λ k. IsTrue (spec_has_line config k)) b.1 b.0

digit_from : (word : List ℕ) (code : ℕ) → digit_of word ≡ Some code → IsTrue (is_digit code)
digit_from [] code e = cc e
digit_from (c ∷ w ∷ ws) code e = cc e
digit_from (c ∷ []) code e =
    let b = only_if_from is_digit c code e in
    subst (λ k. IsTrue (is_digit k)) b.1 b.0

change_from : (k : LineKind) (word : List ℕ) (c : LineChange) → change_of k word ≡ Some c → IsTrue (is_change c)
change_from kind.Ring word c e = let a = map_from change.Ring (switch_of word) c e in subst (λ x. IsTrue (is_change x)) a.2 refl
change_from kind.Loop word c e = let a = map_from change.Current (switch_of word) c e in subst (λ x. IsTrue (is_change x)) a.2 refl
change_from kind.Digit word c e = let a = map_from change.Digit (digit_of word) c e in subst (λ x. IsTrue (is_change x)) a.2 (digit_from word a.0 a.1)
change_from _ word c e = cc e

line_step_from : (k : LineKind) (config : List DeviceSpec) (arguments : List (List ℕ)) (s : Step) → line_step_of k config arguments ≡ Some s → IsStep config s
line_step_from k config arguments s e =
    with_value_from (line_number config) (change_of k) step.Line config arguments s
    (λ device word d c is_line is_change. (line_number_from config device d is_line, change_from k word c is_change)) e

idle_from : (config : List DeviceSpec) (arguments : List (List ℕ)) (s : Step) → idle_of arguments ≡ Some s → IsStep config s
idle_from config [] s e = subst (IsStep config) (some_same e) tt
idle_from config (w ∷ ws) s e = cc e

step_by_kind : (config : List DeviceSpec) (k : Option LineKind) (arguments : List (List ℕ)) (s : Step) → step_of_kind config k arguments ≡ Some s → IsStep config s
step_by_kind config None arguments s e = cc e
step_by_kind config (Some kind.Device) arguments s e = cc e
step_by_kind config (Some kind.Open) arguments s e = with_number_from link_of step.Open config arguments s link_from e
step_by_kind config (Some kind.Send) arguments s e =
    with_value_from link_of (bytes_within 1 longest_send) step.Send config arguments s
    (λ link hex k bytes is_link is_hex. (let size = bytes_from 1 longest_send hex bytes is_hex in (link_from link k is_link, size.0, size.1))) e
step_by_kind config (Some kind.End) arguments s e = with_number_from link_of step.End config arguments s link_from e
step_by_kind config (Some kind.Room) arguments s e =
    with_value_from link_of room_stated step.Room config arguments s (λ link room k n is_link is_room. (link_from link k is_link, room_stated_from room n is_room)) e
step_by_kind config (Some kind.Tick) arguments s e = tick_from config arguments s e
step_by_kind config (Some kind.Ring) arguments s e = line_step_from kind.Ring config arguments s e
step_by_kind config (Some kind.Loop) arguments s e = line_step_from kind.Loop config arguments s e
step_by_kind config (Some kind.Digit) arguments s e = line_step_from kind.Digit config arguments s e
step_by_kind config (Some kind.FailRead) arguments s e = with_number_from link_of step.FailRead config arguments s link_from e
step_by_kind config (Some kind.FailWrite) arguments s e = with_number_from link_of step.FailWrite config arguments s link_from e
step_by_kind config (Some kind.FailCapture) arguments s e = with_number_from (device_number config) step.FailCapture config arguments s (device_number_from config) e
step_by_kind config (Some kind.FailEmit) arguments s e = with_number_from (device_number config) step.FailEmit config arguments s (device_number_from config) e
step_by_kind config (Some kind.FailHook) arguments s e = with_number_from (line_number config) step.FailHook config arguments s (line_number_from config) e
step_by_kind config (Some kind.Idle) arguments s e = idle_from config arguments s e

step_from : (config : List DeviceSpec) (ws : List (List ℕ)) (s : Step) → step_of config ws ≡ Some s → IsStep config s
step_from config [] s e = cc e
step_from config (name ∷ arguments) s e = step_by_kind config (line_kind_of name) arguments s e

-- what holds for each statement, and how many there are
record Says {A : Type 0} (P : A → Type 0) (es : List ScriptLine) (xs : List A) : Type 0 where
  each : All P xs
  count : length xs ≡ length es

abbrev ok_or_nil : {A : Type 0} → Result (List A) ℕ → List A
ok_or_nil (Ok xs) = xs
ok_or_nil (Err n) = []

each_from : {A : Type 0} (P : A → Type 0) (says : List (List ℕ) → Option A) → ((ws : List (List ℕ)) (x : A) → says ws ≡ Some x → P x) → (es : List ScriptLine) (xs : List A) → each_says says es ≡ Ok xs → Says P es xs
each_from P says good [] xs e = let is : [] ≡ xs = ap ok_or_nil e in subst (Says P []) is (record { each = All-nil P; count = refl })
each_from P says good (entry ∷ es) xs e =
    let later = each_from P says good es in
    (elim (says entry.said) as (λ o. says entry.said ≡ o → with_first entry.number o (each_says says es) ≡ Ok xs → Says P (entry ∷ es) xs) [
      | None ↦ λ at h. cc h
      | Some x ↦ λ at h.
          (elim (each_says says es) as (λ r. each_says says es ≡ r → with_first entry.number (Some x) r ≡ Ok xs → Says P (entry ∷ es) xs) [
            | Err n ↦ λ was g. cc g
            | Ok more ↦ λ was g.
                let is : x ∷ more ≡ xs = ap ok_or_nil g in
                let tail = later more was in
                subst (Says P (entry ∷ es)) is (record { each = All-cons P x more (good entry.said x at) tail.each; count = ap suc tail.count })
          ]) refl h
    ]) refl e

-- a script has at least one device, each of a listed rate and with one or two channels, and steps for them
pub record IsSound (s : StatedScript) : Type 0 where
  pub some : 1 ≤ length s.config
  pub few : length s.config ≤ most_devices
  pub rates : All (λ device. IsListedRate device.rate) s.config
  pub channels : All (λ device. IsChannelCount device.channels) s.config
  pub steps : All (IsStep s.config) s.steps

abbrev ok_or : StatedScript → Result StatedScript ℕ → StatedScript
ok_or d (Ok s) = s
ok_or d (Err n) = d

few_lines : (most : ℕ) (es : List ScriptLine) → (device_lines most es ≤ most) × (device_lines most es ≤ length es)
few_lines zero es = (omega arith, omega arith)
few_lines (suc most) [] = (omega arith, omega arith)
few_lines (suc most) (e ∷ es) =
    let later = few_lines most es in
    let a = later.0 in
    let b = later.1 in
    elim (is_device_line e.said) as (λ t. (cond t (suc (device_lines most es)) 0 ≤ suc most) × (cond t (suc (device_lines most es)) 0 ≤ length (e ∷ es))) [
      | true ↦ (omega arith, omega arith)
      | false ↦ (omega arith, omega arith)
    ]

sound : (k : ℕ) (es : List ScriptLine) (after : ℕ) (s : StatedScript) → k ≤ most_devices → k ≤ length es → script_by k es after ≡ Ok s → IsSound s
sound zero es after s few there e = cc e
sound (suc k) es after s few there e =
    let some_lines : nat_eq (suc k) 0 ≡ false = grind (arith, nat_tests) in
    let devices = take (suc k) es in
    let rest = drop (suc k) es in
    let whole : with_config (each_says device_of devices) rest ≡ Ok s = ap (λ t. cond t (Err (first_number es after)) (with_config (each_says device_of devices) rest)) (sym some_lines) ∙ e in
    (elim (each_says device_of devices) as (λ r. each_says device_of devices ≡ r → with_config r rest ≡ Ok s → IsSound s) [
      | Err n ↦ λ was h. cc h
      | Ok config ↦ λ was h.
          let ds = each_from IsDevice device_of device_from devices config was in
          let len = ds.count in
          let taken = length-take (suc k) es in
          (elim (each_says (step_of config) rest) as (λ r. each_says (step_of config) rest ≡ r → with_steps config r ≡ Ok s → IsSound s) [
            | Err n ↦ λ at g. cc g
            | Ok steps ↦ λ at g.
                let is : record { config = config; steps = steps } ≡ s = ap (ok_or s) g in
                let ss = each_from (IsStep config) (step_of config) (step_from config) rest steps at in
                subst IsSound is (record {
                  some = omega arith;
                  few = omega arith;
                  rates = λ k d within. (ds.each k d within).rate;
                  channels = λ k d within. (ds.each k d within).channels;
                  steps = ss.each;
                })
          ]) refl h
    ]) refl whole

pub script_sound : (text : List ℕ) (s : StatedScript) → script_of text ≡ Ok s → IsSound s
unfolding script_of
script_sound text s e =
    let es = entries 1 (lines text) in
    let few = few_lines most_devices es in
    sound (device_lines most_devices es) es (1 + length (lines text)) s few.0 few.1 e
