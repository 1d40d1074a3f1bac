-- Devices that became later at the same time, and the deferred requests of one link.
use Rattle.std.proofs.Common.{◌≡◌, ℕ, zero, suc, ◌==◌, Bool, true, false, not, cond, List, [], ◌∷◌, find, slice_get, refl, sym, ap, ◌∙◌, eqb-true}
use Rattle.std.specs.List.{AllZip}
use Rattle.std.specs.declared.option.Option.{Option}
use Rattle.std.specs.declared.option.Option.TheVariants.{None, Some}
use Rattle.af_wait.specs.Waits.{without_first}
use Rattle.af_model.specs.State.{Deferral, DeviceState, with_device}
use Rattle.af_model.specs.Events.{without_waiter}
use Rattle.af_end_to_end.specs.Performing.{own_waiting}
use Rattle.af_model.proofs.DeviceHistoryLemmas.{Later, Lives, later_refl, later_trans, zip_with}

-- Devices

-- a device that became later at the same time, with the same rate and channels, and has captured nothing since
pub record Alike (d e : DeviceState) : Type 0 where
  pub later : Later d e
  pub now : e.now ≡ d.now
  pub rate : e.rate ≡ d.rate
  pub channels : e.channels ≡ d.channels
  pub begin : e.begin ≡ d.begin
  pub captured : e.captured ≡ d.captured

pub alike_refl : (d : DeviceState) → Alike d d
alike_refl d = record { later = later_refl d; now = refl; rate = refl; channels = refl; begin = refl; captured = refl }

alike_trans : (d e f : DeviceState) → Alike d e → Alike e f → Alike d f
alike_trans d e f a b = record { later = later_trans d e f a.later b.later; now = b.now ∙ a.now; rate = b.rate ∙ a.rate; channels = b.channels ∙ a.channels; begin = b.begin ∙ a.begin; captured = b.captured ∙ a.captured }

pub lives_alike : (d e : DeviceState) → e.begin ≡ d.begin → e.captured ≡ d.captured → Lives d e → Alike d e
lives_alike d e begin captured l = record { later = l.later; now = l.now; rate = l.rate; channels = l.channels; begin = begin; captured = captured }

-- at each number there is no device, or one that is alike
abbrev pub AlikeAt : Option DeviceState → Option DeviceState → Type 0
AlikeAt None None = Unit {0}
AlikeAt None (Some e) = ⊥
AlikeAt (Some d) None = ⊥
AlikeAt (Some d) (Some e) = Alike d e

abbrev pub AllAlike : List DeviceState → List DeviceState → Type 0
AllAlike ds es = (i : ℕ) → AlikeAt (slice_get ds i) (slice_get es i)

at_refl : (o : Option DeviceState) → AlikeAt o o
at_refl None = tt
at_refl (Some d) = alike_refl d

at_trans : (o p q : Option DeviceState) → AlikeAt o p → AlikeAt p q → AlikeAt o q
at_trans None None None a b = tt
at_trans None None (Some f) a b = absurd b
at_trans None (Some e) q a b = absurd a
at_trans (Some d) None q a b = absurd a
at_trans (Some d) (Some e) None a b = absurd b
at_trans (Some d) (Some e) (Some f) a b = alike_trans d e f a b

pub all_alike_refl : (ds : List DeviceState) → AllAlike ds ds
all_alike_refl ds i = at_refl (slice_get ds i)

pub all_alike_trans : (ds es fs : List DeviceState) → AllAlike ds es → AllAlike es fs → AllAlike ds fs
all_alike_trans ds es fs a b i = at_trans (slice_get ds i) (slice_get es i) (slice_get fs i) (a i) (b i)

zip_alike : (ds es : List DeviceState) → AllZip Alike ds es → AllAlike ds es
zip_alike [] [] l i = tt
zip_alike [] (e ∷ es) l i = absurd l
zip_alike (d ∷ ds) [] l i = absurd l
zip_alike (d ∷ ds) (e ∷ es) l zero = l.0
zip_alike (d ∷ ds) (e ∷ es) l (suc i) = zip_alike ds es l.1 i

-- the device at a number becomes another
pub alike_with : (d : ℕ) (f : DeviceState → DeviceState) (ds : List DeviceState) → ((x : DeviceState) → slice_get ds d ≡ Some x → Alike x (f x)) → AllAlike ds (with_device d f ds)
alike_with d f ds l = zip_alike ds (with_device d f ds) (zip_with Alike alike_refl d f ds l)

-- The deferred requests of one link

-- they stay as those of another link leave
own_without : (ws : List Deferral) (j k : ℕ) → (j == k) ≡ false → own_waiting k (without_waiter j ws) ≡ own_waiting k ws
own_without [] j k other = refl
own_without (w ∷ ws) j k other =
    elim (w.link == j) as (λ t. (w.link == j) ≡ t → own_waiting k (cond (not t) (w ∷ without_waiter j ws) (without_waiter j ws)) ≡ own_waiting k (w ∷ ws)) [
      | true ↦ λ e.
          let apart : (w.link == k) ≡ false = ap (λ n. n == k) (eqb-true w.link j e) ∙ other in
          own_without ws j k other ∙ sym (ap (λ t. cond t (w ∷ own_waiting k ws) (own_waiting k ws)) apart)
      | false ↦ λ e. ap (λ l. cond (w.link == k) (w ∷ l) l) (own_without ws j k other)
    ] refl

pub own_of_others : (ws vs : List Deferral) (j k : ℕ) → (j == k) ≡ false → without_waiter j vs ≡ without_waiter j ws → own_waiting k vs ≡ own_waiting k ws
own_of_others ws vs j k other same = sym (own_without vs j k other) ∙ ap (own_waiting k) same ∙ own_without ws j k other

-- and as one of another link does
pub own_first : (passes : Deferral → Bool) (ws : List Deferral) (w : Deferral) (k : ℕ) → find passes ws ≡ Some w → (w.link == k) ≡ false → own_waiting k (without_first passes ws) ≡ own_waiting k ws
own_first passes [] w k e other = absurd cc
own_first passes (v ∷ ws) w k e other =
    elim (passes v) as (λ t. cond t (Some v) (find passes ws) ≡ Some w → own_waiting k (cond t ws (v ∷ without_first passes ws)) ≡ own_waiting k (v ∷ ws)) [
      | true ↦ λ e. let same : v ≡ w = cc in sym (ap (λ t. cond t (v ∷ own_waiting k ws) (own_waiting k ws)) (ap (λ (u : Deferral). u.link == k) same ∙ other))
      | false ↦ λ e. ap (λ l. cond (v.link == k) (v ∷ l) l) (own_first passes ws w k e other)
    ] e
