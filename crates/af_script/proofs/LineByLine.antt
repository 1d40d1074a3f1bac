-- A text that is read line by line gives the script that it is.
use Rattle.std.proofs.Common.{◌≡◌, ℕ, zero, suc, ◌+◌, ◌-◌, Bool, true, false, cond, ◌&&◌, List, [], ◌∷◌, ◌++◌, length, take, drop, refl, sym, ap, ◌∙◌, arith, append_assoc, append-nil, length-append}
use Rattle.std.specs.Prelude.{Option, Some, None, option_map, Result, Ok, Err, nat_lt, nat_eq}
use Rattle.std.proofs.lemmas.Bool.Decides.{nat_tests}
use Rattle.std.proofs.Math.Bool.{and-false}
use Rattle.af_text.specs.Reading.{go_on, read_on}
use Rattle.af_text.proofs.LineByLine.{entries_over, entries_read}
use Rattle.af_world.specs.declared.script.DeviceSpec.{DeviceSpec}
use Rattle.af_world.specs.declared.script.Step.{Step}
use Rattle.af_script.specs.Lines.{words, is_nil, lines}
use Rattle.af_script.specs.Statement.{is_device_line, device_of, step_of}
use Rattle.af_script.specs.Script.{StatedScript, ScriptLine, is_passed_over, entries, most_devices, device_lines, with_first, each_says, first_number, with_steps, with_config, script_by, script_of}
use Rattle.af_script.specs.Reading.{with_script_device, with_step, can_take_device, with_words, with_line, wants_device}

-- a script so far, and the lines from this number on
abbrev pub read_from : StatedScript → ℕ → List (List ℕ) → Result StatedScript ℕ
read_from s n ls = read_on with_line wants_device s n ls

-- One line

nil_push : {A : Type 0} (xs : List A) (x : A) → is_nil (xs ++ x ∷ []) ≡ false
nil_push [] x = refl
nil_push (y ∷ xs) x = refl

line_over : (s : StatedScript) (line : List ℕ) → is_passed_over line ≡ true → with_line s line ≡ Some s
line_over s line over = ap (λ t. cond t (Some s) (with_words s (words line))) over

pub line_read : (s : StatedScript) (line : List ℕ) → is_passed_over line ≡ false → with_line s line ≡ with_words s (words line)
line_read s line over = ap (λ t. cond t (Some s) (with_words s (words line))) over

abbrev by_step : StatedScript → List (List ℕ) → Option StatedScript
by_step s ws = option_map (with_step s) (step_of s.config ws)

pub words_step : (s : StatedScript) (ws : List (List ℕ)) → (can_take_device s && is_device_line ws) ≡ false → is_nil s.config ≡ false → with_words s ws ≡ by_step s ws
words_step s ws other some =
    ap (λ t. cond t (option_map (with_script_device s) (device_of ws)) (cond (is_nil s.config) None (by_step s ws))) other
    ∙ ap (λ t. cond t None (by_step s ws)) some

words_none : (s : StatedScript) (ws : List (List ℕ)) → is_device_line ws ≡ false → is_nil s.config ≡ true → with_words s ws ≡ None
words_none s ws other none =
    ap (λ t. cond t (option_map (with_script_device s) (device_of ws)) (cond (is_nil s.config) None (by_step s ws))) (ap (λ d. can_take_device s && d) other ∙ and-false (can_take_device s))
    ∙ ap (λ t. cond t None (by_step s ws)) none

pub words_device : (s : StatedScript) (ws : List (List ℕ)) → can_take_device s ≡ true → is_device_line ws ≡ true → with_words s ws ≡ option_map (with_script_device s) (device_of ws)
words_device s ws can device =
    ap (λ t. cond t (option_map (with_script_device s) (device_of ws)) (cond (is_nil s.config) None (by_step s ws))) (ap (λ c. c && is_device_line ws) can ∙ device)

over : (n : ℕ) (line : List ℕ) (rest : List (List ℕ)) → is_passed_over line ≡ true → entries n (line ∷ rest) ≡ entries (suc n) rest
over n line rest passed = entries_over is_passed_over words n line rest passed

abbrev entry : ℕ → List ℕ → ScriptLine
entry n line = record { number = n; said = words line }

read : (n : ℕ) (line : List ℕ) (rest : List (List ℕ)) → is_passed_over line ≡ false → entries n (line ∷ rest) ≡ entry n line ∷ entries (suc n) rest
read n line rest states = entries_read is_passed_over words n line rest states

-- Steps

abbrev with_more_steps : StatedScript → Result (List Step) ℕ → Result StatedScript ℕ
with_more_steps s (Ok steps) = Ok (record { config = s.config; steps = s.steps ++ steps })
with_more_steps s (Err n) = Err n

after_step : (s : StatedScript) (x : Step) (n : ℕ) (r : Result (List Step) ℕ) → with_more_steps (with_step s x) r ≡ with_more_steps s (with_first n (Some x) r)
after_step s x n (Ok steps) = ap (λ (all : List Step). Ok (record { config = s.config; steps = all })) (append_assoc s.steps (x ∷ []) steps)
after_step s x n (Err m) = refl

-- what the steps of these lines are
abbrev steps_from : StatedScript → List ScriptLine → Result StatedScript ℕ
steps_from s es = with_more_steps s (each_says (step_of s.config) es)

step_line : (s : StatedScript) (n : ℕ) (line : List ℕ) (rest : List (List ℕ)) → is_passed_over line ≡ false → (can_take_device s && is_device_line (words line)) ≡ false → is_nil s.config ≡ false
    → ((x : Step) → read_from (with_step s x) (suc n) rest ≡ steps_from (with_step s x) (entries (suc n) rest))
    → read_from s n (line ∷ rest) ≡ steps_from s (entries n (line ∷ rest))
step_line s n line rest states other some later =
    let says = step_of s.config in
    ap (go_on (λ t. read_from t (suc n) rest) n) (line_read s line states ∙ words_step s (words line) other some)
    ∙ elim (says (words line)) as (λ o. go_on (λ t. read_from t (suc n) rest) n (option_map (with_step s) o) ≡ with_more_steps s (with_first n o (each_says says (entries (suc n) rest)))) [
      | None ↦ refl
      | Some x ↦ later x ∙ after_step s x n (each_says says (entries (suc n) rest))
    ]
    ∙ ap (steps_from s) (sym (read n line rest states))

takes_no_more : (s : StatedScript) (x : Step) → can_take_device (with_step s x) ≡ false
takes_no_more s x = ap (λ b. b && nat_lt (length s.config) most_devices) (nil_push s.steps x)

-- once there are steps or all devices, each line is a step
steps_only : (s : StatedScript) (n : ℕ) (ls : List (List ℕ)) → is_nil s.config ≡ false → can_take_device s ≡ false → read_from s n ls ≡ steps_from s (entries n ls)
steps_only s n [] some full =
    ap (λ t. cond t (Err n) (Ok s)) some ∙ ap (λ (all : List Step). Ok (record { config = s.config; steps = all })) (sym (append-nil s.steps))
steps_only s n (line ∷ rest) some full =
    elim (is_passed_over line) as (λ t. is_passed_over line ≡ t → read_from s n (line ∷ rest) ≡ steps_from s (entries n (line ∷ rest))) [
      | true ↦ λ passed. ap (go_on (λ t. read_from t (suc n) rest) n) (line_over s line passed) ∙ steps_only s (suc n) rest some full ∙ ap (steps_from s) (sym (over n line rest passed))
      | false ↦ λ states. step_line s n line rest states (ap (λ b. b && is_device_line (words line)) full) some (λ x. steps_only (with_step s x) (suc n) rest some (takes_no_more s x))
    ] refl

-- Devices

abbrev pub no_steps : List DeviceSpec → StatedScript
no_steps config = record { config = config; steps = [] }

-- these devices and more, and then steps
abbrev with_more : List DeviceSpec → Result (List DeviceSpec) ℕ → List ScriptLine → Result StatedScript ℕ
with_more config (Ok more) es = with_steps (config ++ more) (each_says (step_of (config ++ more)) es)
with_more config (Err n) es = Err n

abbrev devices_from : ℕ → List DeviceSpec → List ScriptLine → Result StatedScript ℕ
devices_from k config es = with_more config (each_says device_of (take k es)) (drop k es)

more_device : (config : List DeviceSpec) (d : DeviceSpec) (n : ℕ) (r : Result (List DeviceSpec) ℕ) (es : List ScriptLine) → with_more (config ++ d ∷ []) r es ≡ with_more config (with_first n (Some d) r) es
more_device config d n (Ok more) es = ap (λ (all : List DeviceSpec). with_steps all (each_says (step_of all) es)) (append_assoc config (d ∷ []) more)
more_device config d n (Err m) es = refl

after_none : (config : List DeviceSpec) (r : Result (List Step) ℕ) → with_more_steps (no_steps config) r ≡ with_steps config r
after_none config (Ok steps) = refl
after_none config (Err n) = refl

steps_now : (config : List DeviceSpec) (es : List ScriptLine) → steps_from (no_steps config) es ≡ devices_from 0 config es
steps_now config es =
    after_none config (each_says (step_of config) es)
    ∙ ap (λ (all : List DeviceSpec). with_steps all (each_says (step_of all) es)) (sym (append-nil config))

-- while there may be more devices
devices_too : (config : List DeviceSpec) (room n : ℕ) (ls : List (List ℕ)) → is_nil config ≡ false → length config + room ≡ most_devices → read_from (no_steps config) n ls ≡ devices_from (device_lines room (entries n ls)) config (entries n ls)
devices_too config zero n ls some count =
    steps_only (no_steps config) n ls some (grind (arith, nat_tests)) ∙ steps_now config (entries n ls)
devices_too config (suc room) n [] some count =
    ap (λ t. cond t (Err n) (Ok (no_steps config))) some ∙ ap (λ (all : List DeviceSpec). Ok (no_steps all)) (sym (append-nil config))
devices_too config (suc room) n (line ∷ rest) some count =
    let s = no_steps config in
    let es = entries (suc n) rest in
    elim (is_passed_over line) as (λ t. is_passed_over line ≡ t → read_from s n (line ∷ rest) ≡ devices_from (device_lines (suc room) (entries n (line ∷ rest))) config (entries n (line ∷ rest))) [
      | true ↦ λ passed.
          ap (go_on (λ t. read_from t (suc n) rest) n) (line_over s line passed)
          ∙ devices_too config (suc room) (suc n) rest some count
          ∙ ap (λ xs. devices_from (device_lines (suc room) xs) config xs) (sym (over n line rest passed))
      | false ↦ λ states.
          (elim (is_device_line (words line)) as (λ d. is_device_line (words line) ≡ d → read_from s n (line ∷ rest) ≡ devices_from (cond d (suc (device_lines room es)) 0) config (entry n line ∷ es)) [
            | true ↦ λ device.
                let k = device_lines room es in
                ap (go_on (λ t. read_from t (suc n) rest) n) (line_read s line states ∙ words_device s (words line) (grind (arith, nat_tests)) device)
                ∙ elim (device_of (words line)) as (λ o. go_on (λ t. read_from t (suc n) rest) n (option_map (with_script_device s) o) ≡ with_more config (with_first n o (each_says device_of (take k es))) (drop k es)) [
                  | None ↦ refl
                  | Some d ↦ devices_too (config ++ d ∷ []) room (suc n) rest (nil_push config d) (let len = length-append config (d ∷ []) in omega (arith, len)) ∙ more_device config d n (each_says device_of (take k es)) (drop k es)
                ]
            | false ↦ λ device.
                step_line s n line rest states (ap (λ d. can_take_device s && d) device ∙ and-false (can_take_device s)) some (λ x. steps_only (with_step s x) (suc n) rest some (takes_no_more s x))
                ∙ ap (steps_from s) (read n line rest states) ∙ steps_now config (entry n line ∷ es)
          ] refl)
          ∙ ap (λ xs. devices_from (device_lines (suc room) xs) config xs) (sym (read n line rest states))
    ] refl

-- The whole text

-- how many devices there may be after the first
abbrev more_devices : ℕ
more_devices = most_devices - 1

first_device : (d : DeviceSpec) (n : ℕ) (r : Result (List DeviceSpec) ℕ) (es : List ScriptLine) → with_more (d ∷ []) r es ≡ with_config (with_first n (Some d) r) es
first_device d n (Ok more) es = refl
first_device d n (Err m) es = refl

some_lines : (k : ℕ) (es : List ScriptLine) (after : ℕ) → script_by (suc k) es after ≡ with_config (each_says device_of (take (suc k) es)) (drop (suc k) es)
some_lines k es after =
    let e : nat_eq (suc k) 0 ≡ false = grind (arith, nat_tests) in
    ap (λ t. cond t (Err (first_number es after)) (with_config (each_says device_of (take (suc k) es)) (drop (suc k) es))) e

pub read_all : (n : ℕ) (ls : List (List ℕ)) → read_from (no_steps []) n ls ≡ script_by (device_lines most_devices (entries n ls)) (entries n ls) (n + length ls)
read_all n [] = ap Err (omega arith)
read_all n (line ∷ rest) =
    let s = no_steps [] in
    let es = entries (suc n) rest in
    let after = n + length (line ∷ rest) in
    let one : suc n + length rest ≡ after = omega arith in
    elim (is_passed_over line) as (λ t. is_passed_over line ≡ t → read_from s n (line ∷ rest) ≡ script_by (device_lines most_devices (entries n (line ∷ rest))) (entries n (line ∷ rest)) after) [
      | true ↦ λ passed.
          ap (go_on (λ t. read_from t (suc n) rest) n) (line_over s line passed)
          ∙ read_all (suc n) rest ∙ ap (script_by (device_lines most_devices es) es) one
          ∙ ap (λ xs. script_by (device_lines most_devices xs) xs after) (sym (over n line rest passed))
      | false ↦ λ states.
          (elim (is_device_line (words line)) as (λ d. is_device_line (words line) ≡ d → read_from s n (line ∷ rest) ≡ script_by (cond d (suc (device_lines more_devices es)) 0) (entry n line ∷ es) after) [
            | true ↦ λ device.
                let k = device_lines more_devices es in
                ap (go_on (λ t. read_from t (suc n) rest) n) (line_read s line states ∙ words_device s (words line) refl device)
                ∙ elim (device_of (words line)) as (λ o. go_on (λ t. read_from t (suc n) rest) n (option_map (with_script_device s) o) ≡ with_config (with_first n o (each_says device_of (take k es))) (drop k es)) [
                  | None ↦ refl
                  | Some d ↦ devices_too (d ∷ []) more_devices (suc n) rest refl refl ∙ first_device d n (each_says device_of (take k es)) (drop k es)
                ]
                ∙ sym (some_lines k (entry n line ∷ es) after)
            | false ↦ λ device. ap (go_on (λ t. read_from t (suc n) rest) n) (line_read s line states ∙ words_none s (words line) device refl)
          ] refl)
          ∙ ap (λ xs. script_by (device_lines most_devices xs) xs after) (sym (read n line rest states))
    ] refl

-- a text that is read from its first line on gives the script that it is
read_text : (text : List ℕ) → read_from (no_steps []) 1 (lines text) ≡ script_of text
unfolding script_of
read_text text = read_all 1 (lines text)

pub read_start : (text : List ℕ) (s : StatedScript) → s.config ≡ [] → s.steps ≡ [] → read_from s 1 (lines text) ≡ script_of text
read_start text s no_config none =
    ap (λ (ds : List DeviceSpec). read_from (record { config = ds; steps = s.steps }) 1 (lines text)) no_config
    ∙ ap (λ (xs : List Step). read_from (record { config = []; steps = xs }) 1 (lines text)) none ∙ read_text text
