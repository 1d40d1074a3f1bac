-- What steps and happenings do to a tape.
use Rattle.std.proofs.Common.{◌≡◌, ℕ, suc, ◌+◌, ◌<◌, ◌≤◌, ◌^◌, List, [], ◌∷◌, drop, slice_get, map, replicate, refl, ap, sym, ◌∙◌, subst, arith, Bool, true, false}
use Rattle.std.proofs.Math.Nat.{le_refl}
use Rattle.std.proofs.Math.Seq.{drop-cons}
use Rattle.std.proofs.lemmas.List.Sums.{sum_by-cons}
use Rattle.std.proofs.lemmas.Option.{slice_get_within, get_or_from_slice_get}
use Rattle.std.specs.Prelude.{IfOk}
use Rattle.std.specs.declared.option.Option.{Option}
use Rattle.std.specs.declared.option.Option.TheVariants.{None, Some}
use Rattle.std.specs.declared.result.Result.{Result}
use Rattle.std.specs.declared.result.Result.TheVariants.{Ok, Err}
use Rattle.af_limits.specs.Limits.{most_links}
use Rattle.af_time.specs.declared.OutOfMemory.{OutOfMemory}
use Rattle.af_world.specs.declared.happening.Happening.{Happening}
use Rattle.af_world.specs.declared.happening.Wake.{Wake}
use Rattle.af_world.specs.declared.script.DeviceSpec.{DeviceSpec}
use Rattle.af_world.specs.declared.script.Step.{Step}
use Rattle.af_outside.specs.declared.scripted_device.KeptScriptedDevice.{KeptScriptedDevice}
use Rattle.af_outside.specs.declared.lifecycle_faults.LifecycleFaults.{LifecycleFaults}
use Rattle.af_io.specs.Notes.{Noted}
use Rattle.af_io.specs.Observed.{faults_after}
use Rattle.af_world.specs.Log.{Log}
use Rattle.af_outside.specs.LifecycleState.{LifecycleState, lifecycle_start}
use Rattle.af_world.specs.Outside.{Outside, outside_after_happening, scripted_of, outside_after_step, then_outside, wake_of}
use Rattle.af_outside.specs.TapeState.{TapeState, TapeLeadsTo, TakesStep, Answered, new_tape}
use Rattle.af_outside.specs.Tape.{KeptClient, HasRoomForSteps, kept_scripted_of, outside_of, clients_of, bytes_sent_by, devices_of}
use Rattle.af_outside.proofs.ScriptedDeviceLemmas.{devices_of-start}

-- a happening whose answer leads from one outside to another, if it is noted
pub Answered-noted : (before : Option Log) (happened : Result Happening OutOfMemory) (after : Option Log) (h : Happening) (o o' : Outside) → Noted before happened after →
    IfOk happened (λ x. x ≡ h) → outside_after_happening o h ≡ Some o' → Answered before o after o'
Answered-noted before (Err e) after h o o' noted made leads = subst (λ (a : Option Log). Answered before o a o') (sym noted) tt
Answered-noted before (Ok x) None h o o' noted made leads = tt
Answered-noted None (Ok x) (Some after) h o o' noted made leads = absurd noted
Answered-noted (Some before) (Ok x) (Some after) h o o' noted made leads = (
  x ∷ [],
  noted,
  ap (λ x. then_outside (outside_after_happening o x) (λ o. Some o)) made ∙ ap (λ a. then_outside a (λ o. Some o)) leads,
)

-- a call that is answered as stated, and noted, leads a tape on
pub TapeLeadsTo-noted : (old : TapeState) (happened : Result Happening OutOfMemory) (log : Option Log) (h : Happening) (o : Outside) (link_faults device_faults : ℕ) → Noted old.log happened log →
    IfOk happened (λ x. x ≡ h) → outside_after_happening old.outside h ≡ Some o → old.link_faults ≤ link_faults → old.device_faults ≤ device_faults →
    TapeLeadsTo old (record old { log = log; outside = o; link_faults = link_faults; device_faults = device_faults })
TapeLeadsTo-noted old happened log h o link_faults device_faults noted made answers links given = record {
  config = refl;
  left = refl;
  link_faults = links;
  device_faults = given;
  lifecycle = refl;
  answered = Answered-noted old.log happened log h old.outside o noted made answers;
}

-- no answer lowers a count of faults
pub faults_after-rises : (faults : ℕ) (failed : Bool) → faults < 2 ^ 64 → faults ≤ faults_after faults failed
faults_after-rises faults false fits = omega arith
faults_after-rises faults true fits = omega arith

-- the same for a call on a link, and for one on a device: if it failed, that is counted
pub TapeLeadsTo-link : {inside old : TapeState} → inside ≡ old → (happened : Result Happening OutOfMemory) (log : Option Log) (h : Happening) (o : Outside) (faults : ℕ) (failed : Bool) → Noted inside.log happened log → IfOk happened (λ x. x ≡ h) →
    outside_after_happening old.outside h ≡ Some o → faults ≡ faults_after inside.link_faults failed → inside.link_faults < 2 ^ 64 → TapeLeadsTo old (record inside { log = log; outside = o; link_faults = faults })
TapeLeadsTo-link {inside} {old} is happened log h o faults failed noted made answers counted fits =
    rw (← is, counted) (TapeLeadsTo-noted inside happened log h o (faults_after inside.link_faults failed) inside.device_faults noted made (rw (← is) at answers) (faults_after-rises inside.link_faults failed fits) (le_refl inside.device_faults))

pub TapeLeadsTo-device : {inside old : TapeState} → inside ≡ old → (happened : Result Happening OutOfMemory) (log : Option Log) (h : Happening) (o : Outside) (faults : ℕ) (failed : Bool) → Noted inside.log happened log → IfOk happened (λ x. x ≡ h) →
    outside_after_happening old.outside h ≡ Some o → faults ≡ faults_after inside.device_faults failed → inside.device_faults < 2 ^ 64 → TapeLeadsTo old (record inside { log = log; outside = o; device_faults = faults })
TapeLeadsTo-device {inside} {old} is happened log h o faults failed noted made answers counted fits =
    rw (← is, counted) (TapeLeadsTo-noted inside happened log h o inside.link_faults (faults_after inside.device_faults failed) noted made (rw (← is) at answers) (le_refl inside.link_faults) (faults_after-rises inside.device_faults failed fits))

-- what is kept is what code held, before a call and after it
pub answered_as : {A : Type 0} (outside : A → Outside) (before before' after after' : A) (h : Happening) → before ≡ before' → after' ≡ after →
    outside_after_happening (outside before) h ≡ Some (outside after) → outside_after_happening (outside before') h ≡ Some (outside after')
answered_as outside before before' after after' h old new e =
    subst (λ x. outside_after_happening (outside x) h ≡ Some (outside after')) old (e ∙ ap (λ x. Some (outside x)) (sym new))

-- the step with a number comes before those after it
pub drop-next : (steps : List Step) (number : ℕ) (step : Step) → slice_get steps number ≡ Some step → drop number steps ≡ step ∷ drop (number + 1) steps
drop-next steps number step at =
    drop-cons steps number step (slice_get_within steps number step at)
    ∙ ap (λ s. s ∷ drop (suc number) steps) (get_or_from_slice_get steps number step step at)
    ∙ (let next : suc number ≡ number + 1 = omega arith in ap (λ n. step ∷ drop n steps) next)

-- room for the steps that are left is room for the first
pub HasRoomForSteps-first : (links : List KeptClient) (step : Step) (steps : List Step) → HasRoomForSteps links (step ∷ steps) → HasRoomForSteps links (step ∷ [])
HasRoomForSteps-first links step steps room = record {
  each = λ k scripted_link at.
      let fits = room.each k scripted_link at in
      let all = sum_by-cons (bytes_sent_by k) step steps in
      let one = sum_by-cons (bytes_sent_by k) step [] in
      omega arith;
}

-- the first step that is left is taken
pub TakesStep-first : {inside old : TapeState} → inside ≡ old → (step : Step) (left : List Step) (wake : Wake) (o : Outside) → inside.left ≡ step ∷ left → wake ≡ wake_of inside.outside step →
    o ≡ outside_after_step inside.outside step → TakesStep old old.left (Some wake) (record inside { left = left; outside = o })
TakesStep-first {inside} {old} is step left wake o first woken changed =
    subst (λ (t : TapeState). TakesStep t t.left (Some wake) (record inside { left = left; outside = o })) is
    (subst (λ steps. TakesStep inside steps (Some wake) (record inside { left = left; outside = o })) (sym first)
    (woken, ap (λ o. record inside { left = left; outside = o }) changed))

-- the parts of a tape of which nothing was asked yet
pub new_tape-parts : (config config' : List DeviceSpec) (steps steps' : List Step) (log : Option Log) (links : List KeptClient) (kept : List KeptScriptedDevice) (faults : LifecycleFaults) (lifecycle : LifecycleState) → config' ≡ config → steps' ≡ steps →
    log ≡ Some [] → clients_of links ≡ replicate most_links None → kept ≡ map (λ d. kept_scripted_of d.ty) config → lifecycle ≡ lifecycle_start faults →
    (let tape : TapeState = record { config = config'; left = steps'; log = log; outside = outside_of links (devices_of steps' kept); link_faults = 0; device_faults = 0; lifecycle = lifecycle } in tape) ≡ new_tape config steps faults
new_tape-parts config config' steps steps' log links kept faults lifecycle given left told closed start begun =
    let devices : devices_of steps kept ≡ map (λ d. scripted_of d.ty) config = ap (devices_of steps) start ∙ devices_of-start steps config in
    rw (given, left, told, begun)
    (ap (λ clients. (let tape : TapeState = record { config = config; left = steps; log = Some []; outside = record { clients = clients; devices = devices_of steps kept }; link_faults = 0; device_faults = 0; lifecycle = lifecycle_start faults } in tape)) closed
    ∙ ap (λ devices. (let tape : TapeState = record { config = config; left = steps; log = Some []; outside = record { clients = replicate most_links None; devices = devices }; link_faults = 0; device_faults = 0; lifecycle = lifecycle_start faults } in tape)) devices)
