-- The laws of what the calls of a tape lead to.
use Rattle.std.proofs.Common.{◌≡◌, List, [], ◌∷◌, ◌++◌, refl, sym, ap, ◌∙◌, subst, append_assoc, IsSome}
use Rattle.std.proofs.Math.Nat.{le_refl, le_trans}
use Rattle.std.proofs.lemmas.List.{append-nil}
use Rattle.std.specs.declared.option.Option.{Option}
use Rattle.std.specs.declared.option.Option.TheVariants.{None, Some}
use Rattle.af_world.specs.declared.lifecycle.Lifecycle.{Lifecycle}
use Rattle.af_io.specs.Observed.{Unchanged}
use Rattle.af_world.specs.Log.{Log}
use Rattle.af_outside.specs.LifecycleState.{LifecycleState, told_beside}
use Rattle.af_world.specs.Outside.{Outside, outside_after_happening, outside_after_log, then_outside}
use Rattle.af_outside.specs.TapeState.{TapeState, TapeLeadsTo, Answered, lifecycle_told}

-- a log of two parts is replayed part by part
pub outside_after_log-append : (o : Outside) (front back : Log) →
    outside_after_log o (front ++ back) ≡ then_outside (outside_after_log o front) (λ o. outside_after_log o back)
outside_after_log-append o [] back = refl
outside_after_log-append o (h ∷ front) back =
    elim (outside_after_happening o h) as
    (λ x. then_outside x (λ o. outside_after_log o (front ++ back))
    ≡ then_outside (then_outside x (λ o. outside_after_log o front)) (λ o. outside_after_log o back))
    [ None ↦ refl | Some o' ↦ outside_after_log-append o' front back ]

answered_refl : (log : Option Log) (o : Outside) → Answered log o log o
answered_refl None o = tt
answered_refl (Some log) o = ([], sym (append-nil log), refl)

answered_trans : (x y z : Option Log) (a b c : Outside) → Answered x a y b → Answered y b z c → Answered x a z c
answered_trans x y None a b c p q = tt
answered_trans x None (Some z) a b c p q = absurd q
answered_trans None (Some y) (Some z) a b c p q = absurd p
answered_trans (Some x) (Some y) (Some z) a b c p q = (
  p.0 ++ q.0,
  q.1 ∙ ap (λ log. log ++ q.0) p.1 ∙ append_assoc x p.0 q.0,
  outside_after_log-append a p.0 q.0 ∙ ap (λ o. then_outside o (λ o. outside_after_log o q.0)) p.2 ∙ q.2,
)

-- no call leads anywhere by itself
pub TapeLeadsTo-refl : (a : TapeState) → TapeLeadsTo a a
TapeLeadsTo-refl a =
    record {
      config = refl;
      left = refl;
      link_faults = le_refl a.link_faults;
      device_faults = le_refl a.device_faults;
      lifecycle = refl;
      answered = answered_refl a.log a.outside;
    }

-- calls after calls are calls
pub TapeLeadsTo-trans : (a b c : TapeState) → TapeLeadsTo a b → TapeLeadsTo b c → TapeLeadsTo a c
TapeLeadsTo-trans a b c p q = record {
  config = q.config ∙ p.config;
  left = q.left ∙ p.left;
  link_faults = le_trans p.link_faults q.link_faults;
  device_faults = le_trans p.device_faults q.device_faults;
  lifecycle = q.lifecycle ∙ p.lifecycle;
  answered = answered_trans a.log b.log c.log a.outside b.outside c.outside p.answered q.answered;
}

-- calls leave the lifecycle log as it is, if it is still observable
stays_beside : (x y : Option Log) (a b : Outside) (entries : List Lifecycle) → Answered x a y b →
    Unchanged (told_beside x entries) (told_beside y entries)
stays_beside x None a b entries p = tt
stays_beside None (Some y) a b entries p = absurd p
stays_beside (Some x) (Some y) a b entries p = refl

pub TapeLeadsTo-lifecycle : (a b : TapeState) → TapeLeadsTo a b → Unchanged (lifecycle_told a) (lifecycle_told b)
TapeLeadsTo-lifecycle a b p =
    let e = ap (λ (o : LifecycleState). o.entries) p.lifecycle in
    subst (λ entries. Unchanged (lifecycle_told a) (told_beside b.log entries)) (sym e)
    (stays_beside a.log b.log a.outside b.outside a.lifecycle.entries p.answered)

-- nor do they move the counts of listens and waits that failed
pub TapeLeadsTo-listen_faults : (a b : TapeState) → TapeLeadsTo a b → b.lifecycle.listen_faults ≡ a.lifecycle.listen_faults
TapeLeadsTo-listen_faults a b p = ap (λ (o : LifecycleState). o.listen_faults) p.lifecycle

pub TapeLeadsTo-wait_faults : (a b : TapeState) → TapeLeadsTo a b → b.lifecycle.wait_faults ≡ a.lifecycle.wait_faults
TapeLeadsTo-wait_faults a b p = ap (λ (o : LifecycleState). o.wait_faults) p.lifecycle

-- if the log of a tape is observable, its lifecycle log is
tells_beside : (log : Option Log) (entries : List Lifecycle) → IsSome log → IsSome (told_beside log entries)
tells_beside None entries h = h
tells_beside (Some log) entries h = h

pub Tape-tells_both : (a : TapeState) → IsSome a.log → IsSome (lifecycle_told a)
Tape-tells_both a h = tells_beside a.log a.lifecycle.entries h
