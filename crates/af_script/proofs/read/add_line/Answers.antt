use Rattle.std.proofs.Common.{◌≡◌, ℕ, Bool, true, false, ◌&&◌, ◌==◌, List, [], ◌∷◌, ◌++◌, length, cond, refl, sym, ap, ◌∙◌}
use Rattle.std.specs.Prelude.{Option, Some, None, option_map, Result, Ok, Err, IfOk}
use Rattle.std.proofs.lemmas.Bool.{and_parts}
use Rattle.af_time.specs.declared.OutOfMemory.{OutOfMemory}
use Rattle.af_world.specs.declared.script.DeviceSpec.{DeviceSpec}
use Rattle.af_world.specs.declared.script.Step.{Step}
use Rattle.af_script.specs.declared.statement.LineKind.{LineKind}
use Rattle.af_script.specs.Lines.{words, is_nil}
use Rattle.af_script.specs.Words.{then_some}
use Rattle.af_script.specs.Statement.{line_kind_of, is_device_kind, device_with, step_of_kind}
use Rattle.af_script.specs.Script.{StatedScript, is_passed_over}
use Rattle.af_script.specs.Reading.{with_script_device, with_step, with_words, can_take_device, with_line}
use Rattle.af_script.proofs.LineByLine.{line_read, words_device, words_step}
use Rattle.af_script.proofs.read.add_line.Goals as goal

abbrev stated : List DeviceSpec → List Step → StatedScript
stated config steps = record { config = config; steps = steps }

some_device : (config : List DeviceSpec) → (length config == 0) ≡ false → is_nil config ≡ false
some_device [] e = cc e
some_device (d ∷ config) e = refl

-- the steps with one more, for these devices
pushed : (config : List DeviceSpec) (steps : List Step) (o : Option Step) → option_map (with_step (stated config steps)) o ≡ option_map (stated config) (option_map (λ step. steps ++ step ∷ []) o)
pushed config steps None = refl
pushed config steps (Some step) = refl

stated_some : (config : List DeviceSpec) (steps : List Step) (is_there : Bool) → option_map (stated config) (then_some is_there steps) ≡ then_some is_there (stated config steps)
stated_some config steps true = refl
stated_some config steps false = refl

-- a line that states a step
line_step : (config seen : List DeviceSpec) (steps held more : List Step) (line name : List ℕ) (arguments : List (List ℕ)) (kind : LineKind) (added : Result Bool OutOfMemory)
    → is_passed_over line ≡ false → words line ≡ name ∷ arguments → Some kind ≡ line_kind_of name → held ≡ steps → seen ≡ config
    → (can_take_device (stated config held) && is_device_kind (Some kind)) ≡ false → is_nil config ≡ false
    → IfOk added (λ allowed. option_map (λ step. steps ++ step ∷ []) (step_of_kind seen (Some kind) arguments) ≡ then_some allowed more)
    → IfOk added (λ allowed. with_line (stated config steps) line ≡ then_some allowed (stated config more))
line_step config seen steps held more line name arguments kind (Err e) read named is_kind same_steps same other some one = tt
line_step config seen steps held more line name arguments kind (Ok allowed) read named is_kind same_steps same other some one =
    let s = stated config steps in
    let no_device : (can_take_device s && is_device_kind (line_kind_of name)) ≡ false =
    sym (ap (λ xs. can_take_device (stated config xs) && is_device_kind (Some kind)) same_steps ∙ ap (λ k. can_take_device s && is_device_kind k) is_kind) ∙ other in
    let is_step = ap (λ ds. option_map (λ step. steps ++ step ∷ []) (step_of_kind ds (Some kind) arguments)) (sym same) ∙ one in
    line_read s line read ∙ ap (with_words s) named ∙ words_step s (name ∷ arguments) no_device some
    ∙ ap (λ k. option_map (with_step s) (step_of_kind config k arguments)) (sym is_kind)
    ∙ pushed config steps (step_of_kind config (Some kind) arguments)
    ∙ ap (option_map (stated config)) is_step ∙ stated_some config more allowed

with_devices : (config : List DeviceSpec) (steps : List Step) (o : Option DeviceSpec) → option_map (with_script_device (stated config steps)) o ≡ option_map (λ ds. stated ds steps) (option_map (λ device. config ++ device ∷ []) o)
with_devices config steps None = refl
with_devices config steps (Some device) = refl

devices_some : (config : List DeviceSpec) (steps : List Step) (is_there : Bool) → option_map (λ ds. stated ds steps) (then_some is_there config) ≡ then_some is_there (stated config steps)
devices_some config steps true = refl
devices_some config steps false = refl

-- a line that states a device
line_device : (config more : List DeviceSpec) (steps held : List Step) (line name : List ℕ) (arguments : List (List ℕ)) (kind : LineKind) (allowed : Bool)
    → is_passed_over line ≡ false → words line ≡ name ∷ arguments → Some kind ≡ line_kind_of name → held ≡ steps
    → (can_take_device (stated config held) && is_device_kind (Some kind)) ≡ true
    → option_map (λ device. config ++ device ∷ []) (device_with arguments) ≡ then_some allowed more
    → with_line (stated config steps) line ≡ then_some allowed (stated more steps)
line_device config more steps held line name arguments kind allowed read named is_kind same further one =
    let s = stated config steps in
    let both = and_parts (can_take_device s) (is_device_kind (Some kind)) (ap (λ xs. can_take_device (stated config xs) && is_device_kind (Some kind)) (sym same) ∙ further) in
    let device : is_device_kind (line_kind_of name) ≡ true = ap is_device_kind (sym is_kind) ∙ both.1 in
    line_read s line read ∙ ap (with_words s) named ∙ words_device s (name ∷ arguments) both.0 device
    ∙ ap (λ t. option_map (with_script_device s) (cond t (device_with arguments) None)) device
    ∙ with_devices config steps (device_with arguments)
    ∙ ap (option_map (λ ds. stated ds steps)) one ∙ devices_some more steps allowed

pub returns-then-is_further_device : goal.returns-then-is_further_device
returns-then-is_further_device c =
    line_device c.args.config.now.items c.add_device.new.config.items c.args.steps.now.items c.deref.result.now c.args.line.now c.in-Some.name.now _ c.in-Some-kind_named.kind c.add_device.result
    (sym c.passes_over.ensures ∙ c.if-passes_over.false) c.in-Some.ensures.split c.in-Some-kind_named.ensures c.deref.ensures.value
    (sym c.is_further_device.ensures ∙ c.if-is_further_device.true) c.add_device.ensures

pub returns : goal.returns
returns c =
    line_step c.args.config.now.items c.deref-2.result.now c.args.steps.now.items c.deref.result.now c.add_step.new.steps.items c.args.line.now c.in-Some.name.now _ c.in-Some-kind_named.kind c.add_step.result
    (sym c.passes_over.ensures ∙ c.if-passes_over.false) c.in-Some.ensures.split c.in-Some-kind_named.ensures c.deref.ensures.value c.deref-2.ensures.0
    (sym c.is_further_device.ensures ∙ c.if-is_further_device.false) (some_device c.args.config.now.items (sym c.is_empty.ensures ∙ c.if-is_empty.false)) c.add_step.ensures
