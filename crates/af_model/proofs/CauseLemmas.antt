-- What the history of an open link shows: nothing of an end if it is not closing, and its cause if it is.
use Rattle.std.proofs.Common.{◌≡◌, ℕ, ◌+◌, ◌<◌, Bool, true, false, cond, List, [], ◌++◌, length, nat_le, refl, sym, ◌∙◌, subst, arith}
use Rattle.std.specs.declared.option.Option.{Option}
use Rattle.std.specs.declared.option.Option.TheVariants.{None, Some}
use Rattle.af_limits.specs.Limits.{event_limit}
use Rattle.af_wire.specs.declared.order.Order.{Order}
use Rattle.af_wire.specs.Front.{setup_front}
use Rattle.af_wire.specs.declared.front.SetupFront.TheVariants as front
use Rattle.af_world.specs.declared.happening.Why.{Why}
use Rattle.af_world.specs.declared.happening.Why.TheVariants as why
use Rattle.af_model.specs.State.{LinkState}
use Rattle.af_model.specs.LinkHistory.{LinkHistory}
use Rattle.af_model.specs.Prefix.{is_dropped}
use Rattle.af_model.specs.Causes.{AreServed, IsCause, IsServedTo}
use Rattle.af_model.proofs.InputLemmas.{IsInput, IsBadInput}

-- the input of a link that nothing has ended
pub record IsUnended (h : LinkHistory) (is_set_up : Bool) (order : Order) (rest : List ℕ) : Type 0 where
  pub failed : h.has_failed ≡ false
  pub ended : h.has_ended ≡ false
  pub input : IsInput is_set_up order h.gave rest

-- what is owed to a link at its close: what was never sent, if it was dropped, and else nothing
abbrev pub owed_at_close : Bool → List ℕ → ℕ
owed_at_close dropped owed = cond dropped (length owed) 0

abbrev pub ShowsBy : LinkHistory → List ℕ → Bool → Order → List ℕ → Option Why → Type 0
ShowsBy h owed is_set_up order rest None = IsUnended h is_set_up order rest
ShowsBy h owed is_set_up order rest (Some cause) = IsCause cause h (owed_at_close (is_dropped (Some cause)) owed)

-- what is shown of an open link to which this is owed
abbrev pub Shows : LinkHistory → List ℕ → LinkState → Type 0
Shows h owed l = ShowsBy h owed l.is_set_up l.order l.rest l.closing

-- a history that differs in what was taken, or in a close, shows the same cause
pub cause_alike : (cause : Why) (h g : LinkHistory) (n : ℕ) → g.gave ≡ h.gave → g.has_ended ≡ h.has_ended → g.has_failed ≡ h.has_failed → IsCause cause h n → IsCause cause g n
cause_alike why.LinkFault h g n gave ended failed c = failed ∙ c
cause_alike why.Overrun h g n gave ended failed c = (failed ∙ c.0, ended ∙ c.1, c.2)
cause_alike why.Ended h g n gave ended failed c = (failed ∙ c.0, ended ∙ c.1, c.2, subst AreServed (sym gave) c.3)
cause_alike why.BadSetup h g n gave ended failed c =
    (record { failed = failed ∙ c.0.failed; ended = ended ∙ c.0.ended; all_taken = c.0.all_taken }, c.1, c.2, subst (λ l. setup_front l ≡ front.BadSetup c.1 c.2) (sym gave) c.3)
cause_alike why.Malformed h g n gave ended failed c =
    (record { failed = failed ∙ c.0.failed; ended = ended ∙ c.0.ended; all_taken = c.0.all_taken }, c.1, c.2, subst (λ l. IsServedTo c.1 l c.2) (sym gave) c.3, c.4)

-- what is owed to a link counts only if it was dropped
pub shows_owed : (h : LinkHistory) (owed other : List ℕ) (is_set_up : Bool) (order : Order) (rest : List ℕ) (closing : Option Why) → is_dropped closing ≡ false → ShowsBy h owed is_set_up order rest closing → ShowsBy h other is_set_up order rest closing
shows_owed h owed other is_set_up order rest None stays s = s
shows_owed h owed other is_set_up order rest (Some cause) stays s = subst (λ t. IsCause cause h (owed_at_close t other)) (sym stays) (subst (λ t. IsCause cause h (owed_at_close t owed)) stays s)

-- more was taken of what is owed to a link that was not dropped
pub shows_taken : (h : LinkHistory) (bytes owed other : List ℕ) (is_set_up : Bool) (order : Order) (rest : List ℕ) (closing : Option Why) → is_dropped closing ≡ false → ShowsBy h owed is_set_up order rest closing →
    ShowsBy (record h { took = h.took ++ bytes }) other is_set_up order rest closing
shows_taken h bytes owed other is_set_up order rest None stays s = record { failed = s.failed; ended = s.ended; input = s.input }
shows_taken h bytes owed other is_set_up order rest (Some cause) stays s =
    subst (λ t. IsCause cause (record h { took = h.took ++ bytes }) (owed_at_close t other)) (sym stays)
    (cause_alike cause h (record h { took = h.took ++ bytes }) 0 refl refl refl (subst (λ t. IsCause cause h (owed_at_close t owed)) stays s))

-- bytes at the front of the input close a link
pub shows_bad : (h : LinkHistory) (owed : List ℕ) (cause : Why) (l : LinkState) → IsBadInput cause l → IsUnended h l.is_set_up l.order l.rest → ShowsBy h owed l.is_set_up l.order [] (Some cause)
shows_bad h owed why.BadSetup l bad s =
    let same : l.rest ≡ h.gave = subst (λ b. IsInput b l.order h.gave l.rest) bad.0 s.input in
    (record { failed = s.failed; ended = s.ended; all_taken = refl }, bad.1, bad.2, subst (λ x. setup_front x ≡ front.BadSetup bad.1 bad.2) same bad.3)
shows_bad h owed why.Malformed l bad s =
    let served : IsServedTo l.order h.gave l.rest = subst (λ b. IsInput b l.order h.gave l.rest) bad.0 s.input in
    (record { failed = s.failed; ended = s.ended; all_taken = refl }, l.order, l.rest, served, bad.1)
shows_bad h owed cause l bad s = absurd bad

-- an event that finds no room would exceed the bound
pub no_room : (n : ℕ) → nat_le (n + 20) event_limit ≡ false → event_limit < n + 20
no_room n e = grind arith

-- the cause of a link that is closed: if it was not dropped, nothing is owed to it
pub shows_at_close : (h : LinkHistory) (owed : List ℕ) (is_set_up : Bool) (order : Order) (rest : List ℕ) (cause : Why) → (is_dropped (Some cause) ≡ false → owed ≡ []) → ShowsBy h owed is_set_up order rest (Some cause) → IsCause cause h (length owed)
shows_at_close h owed is_set_up order rest cause none s =
    elim (is_dropped (Some cause)) as (λ t. (t ≡ false → owed ≡ []) → IsCause cause h (owed_at_close t owed) → IsCause cause h (length owed)) [
      | true ↦ λ none s. s
      | false ↦ λ none s. subst (λ l. IsCause cause h (length l)) (sym (none refl)) s
    ] none s

-- A history shows one cause at most
pub one_cause : (a b : Why) (h : LinkHistory) (n : ℕ) → IsCause a h n → IsCause b h n → a ≡ b
one_cause a b h n s t = one a b s t
  where
    not_failed : {A : Type 0} → h.has_failed ≡ true → h.has_failed ≡ false → A
    not_failed e f = absurd (true_false (sym e ∙ f))
      where
        true_false : true ≡ false → ⊥
        true_false e = cc

    not_ended : {A : Type 0} → h.has_ended ≡ true → h.has_ended ≡ false → A
    not_ended e f = absurd (true_false (sym e ∙ f))
      where
        true_false : true ≡ false → ⊥
        true_false e = cc

    no_owed : {A : Type 0} → event_limit < n + 20 → n ≡ 0 → A
    no_owed e f = absurd (omega (arith, e, f))

    not_set_up : {A : Type 0} (order other : Order) (value : ℕ) → setup_front h.gave ≡ front.BadSetup order value → setup_front h.gave ≡ front.Setup other → A
    not_set_up order other value e f = absurd (two_fronts (sym e ∙ f))
      where
        two_fronts : front.BadSetup order value ≡ front.Setup other → ⊥
        two_fronts e = cc

    one : (a b : Why) → IsCause a h n → IsCause b h n → a ≡ b
    one why.LinkFault why.LinkFault s t = refl
    one why.LinkFault why.Overrun s t = not_failed s t.0
    one why.LinkFault why.Ended s t = not_failed s t.0
    one why.LinkFault why.BadSetup s t = not_failed s t.0.failed
    one why.LinkFault why.Malformed s t = not_failed s t.0.failed
    one why.Overrun why.LinkFault s t = not_failed t s.0
    one why.Overrun why.Overrun s t = refl
    one why.Overrun why.Ended s t = not_ended t.1 s.1
    one why.Overrun why.BadSetup s t = no_owed s.2 t.0.all_taken
    one why.Overrun why.Malformed s t = no_owed s.2 t.0.all_taken
    one why.Ended why.LinkFault s t = not_failed t s.0
    one why.Ended why.Overrun s t = not_ended s.1 t.1
    one why.Ended why.Ended s t = refl
    one why.Ended why.BadSetup s t = not_ended s.1 t.0.ended
    one why.Ended why.Malformed s t = not_ended s.1 t.0.ended
    one why.BadSetup why.LinkFault s t = not_failed t s.0.failed
    one why.BadSetup why.Overrun s t = no_owed t.2 s.0.all_taken
    one why.BadSetup why.Ended s t = not_ended t.1 s.0.ended
    one why.BadSetup why.BadSetup s t = refl
    one why.BadSetup why.Malformed s t = not_set_up s.1 t.1 s.2 s.3 t.3.setup
    one why.Malformed why.LinkFault s t = not_failed t s.0.failed
    one why.Malformed why.Overrun s t = no_owed t.2 s.0.all_taken
    one why.Malformed why.Ended s t = not_ended t.1 s.0.ended
    one why.Malformed why.BadSetup s t = not_set_up t.1 s.1 t.2 t.3 s.3.setup
    one why.Malformed why.Malformed s t = refl
