-- What goes by as lines are asked one after another, and what their calls leave alone.
use Rattle.std.proofs.Common.{◌≡◌, ◌≢◌, ⊎_elim, ℕ, ◌+◌, ◌<◌, ◌≤◌, max, Bool, true, false, List, length, map, slice_set, option_map, refl, sym, ap, subst, ◌∙◌, if◌then◌else◌, arith}
use Rattle.std.proofs.Math.Seq.{map-set_same}
use Rattle.std.proofs.lemmas.Bool.{cases_lt, cases_eq, false≢true}
use Rattle.std.proofs.lemmas.List.{get_or-set_same, get_or-set_other, get_or_past, length-set}
use Rattle.std.specs.declared.option.Option.{Option}
use Rattle.std.specs.declared.option.Option.TheVariants.{None, Some}
use Rattle.af_limits.specs.Limits.{most_devices}
use Rattle.af_io.specs.declared.flow.Put.{Put}
use Rattle.af_phone.specs.declared.line.LineChange.{LineChange}
use Rattle.af_phone.specs.Lines.{is_change}
use Rattle.af_lines.specs.ExchangeUse.{ExchangeUse, KeepsOrders, orders_of, exchange_orders}
use Rattle.af_lines.specs.HeldLines.{LineState, LinesState, quiet, over, line_at, has_exchange, line_orders, all_line_orders, NoLines, NoneFrom, IsAskedOf, LinesAsked, LineChanges, GoesOverLines, HooksBy, HooksLine, HooksAt}

-- What calls leave alone

orders_kept : (before after : ExchangeUse) → KeepsOrders before after → exchange_orders after ≡ exchange_orders before
orders_kept before after same =
    ap (λ n. orders_of n after.words) same.restarts ∙ ap (λ words. orders_of before.dialogue.starts.restarts words) same.words

over_kept : (before now : ExchangeUse) (after : Option LineState) → KeepsOrders before now → after ≡ Some (over now) →
    option_map line_orders after ≡ option_map line_orders (Some (over before))
over_kept before now after same is =
    ap (option_map line_orders) is ∙ ap (λ (e : ExchangeUse). Some (over e)) (orders_kept before now same)

hooks_kind : (off : Bool) (answer : Put) (l after : Option LineState) → HooksBy off answer l after → option_map line_orders after ≡ option_map line_orders l
hooks_kind off answer None after h = ap (option_map line_orders) h.1
hooks_kind off answer (Some quiet) after h = ap (option_map line_orders) h.1
hooks_kind off answer (Some (over e)) after h = over_kept e h.0 after h.1.same h.2

lines_kept : (old new : List (Option LineState)) (d : ℕ) (after : Option LineState) → option_map line_orders after ≡ option_map line_orders (line_at old d) →
    new ≡ slice_set old d after → all_line_orders new ≡ all_line_orders old
unfolding all_line_orders
lines_kept old new d after same is = ap (map (option_map line_orders)) is ∙ map-set_same (option_map line_orders) old d after None same

pub hooks_same : (d : ℕ) (off : Bool) (answer : Put) (old new : LinesState) → HooksAt d off answer old new →
    (all_line_orders new.lines ≡ all_line_orders old.lines) × (new.next ≡ old.next)
hooks_same d off answer old new h =
    let line = h.0 in
    (lines_kept old.lines new.lines d line.0 (hooks_kind off answer (line_at old.lines d) line.0 line.1) line.2, h.1)

-- Lines that are asked

pub none_asked : (at from : ℕ) (lines : List (Option LineState)) → LinesAsked at from from lines lines
none_asked at from lines = record {
  inside = λ d below on. absurd (omega arith);
  below = λ d _. refl;
  above = λ d _. refl;
}

-- one line more
pub one_asked : (at from d : ℕ) (old now : List (Option LineState)) (l : Option LineState) → from ≤ d → d < length now →
    LinesAsked at from d old now → IsAskedOf at None (line_at now d) l → LinesAsked at from (d + 1) old (slice_set now d l)
one_asked at from d old now l on fits asked is =
    let there : (e : ℕ) → e ≢ d → line_at (slice_set now d l) e ≡ line_at now e
    = λ e other. get_or-set_other now d e l None other in
    let here : IsAskedOf at None (line_at old d) (line_at (slice_set now d l) d)
    = subst (λ x. IsAskedOf at None (line_at old d) x) (sym (get_or-set_same now d l None fits))
    (subst (λ x. IsAskedOf at None x l) (asked.above d (omega arith)) is) in
    record {
      inside = λ e below at'.
          ⊎_elim (λ same. subst (λ k. IsAskedOf at None (line_at old k) (line_at (slice_set now d l) k)) (sym same) here)
          (λ other. subst (λ x. IsAskedOf at None (line_at old e) x) (sym (there e other)) (asked.inside e (omega arith) at'))
          (cases_eq e d);
      below = λ e before. there e (λ same. omega arith) ∙ asked.below e before;
      above = λ e beyond. there e (λ same. omega arith) ∙ asked.above e (omega arith);
    }

pub this_one_changes : (at from d : ℕ) (change : LineChange) (old now : List (Option LineState)) (l : Option LineState) → from ≤ d → d < length now →
    LinesAsked at from d old now → IsAskedOf at (Some change) (line_at now d) l → LineChanges at from d change old (slice_set now d l)
this_one_changes at from d change old now l on fits asked is =
    let there : (e : ℕ) → e ≢ d → line_at (slice_set now d l) e ≡ line_at now e
    = λ e other. get_or-set_other now d e l None other in
    record {
      on = on;
      passed = λ e below at'. subst (λ x. IsAskedOf at None (line_at old e) x) (sym (there e (λ same. omega arith))) (asked.inside e below at');
      changes = subst (λ x. IsAskedOf at (Some change) (line_at old d) x) (sym (get_or-set_same now d l None fits))
          (subst (λ x. IsAskedOf at (Some change) x l) (asked.above d (omega arith)) is);
      below = λ e before. there e (λ same. omega arith) ∙ asked.below e before;
      above = λ e beyond. there e (λ same. omega arith) ∙ asked.above e (omega arith);
    }

-- a line without a program that stays as it is has no change
unasked : (at : ℕ) (l l' : Option LineState) → has_exchange l ≡ false → l' ≡ l → IsAskedOf at None l l'
unasked at None l' none same = (refl, same)
unasked at (Some quiet) l' none same = (refl, same)
unasked at (Some (over e)) l' none same = absurd (false≢true (sym none))

pub asked_to_the_last : (at from end : ℕ) (old new : List (Option LineState)) → end ≤ most_devices → from ≤ most_devices → NoneFrom end old →
    LinesAsked at from (max from end) old new → LinesAsked at from most_devices old new
asked_to_the_last at from end old new few within none asked = record {
  inside = λ d below on.
      ⊎_elim (λ inside. asked.inside d inside on)
      (λ beyond. unasked at (line_at old d) (line_at new d) (none d (omega arith)) (asked.above d beyond))
      (cases_lt d (max from end));
  below = asked.below;
  above = λ d beyond. asked.above d (omega arith);
}

-- No line gets a program by being asked

still_none : (at : ℕ) (change : Option LineChange) (l l' : Option LineState) → IsAskedOf at change l l' → has_exchange l ≡ false → has_exchange l' ≡ false
still_none at change None l' h none = ap has_exchange h.1
still_none at change (Some quiet) l' h none = ap has_exchange h.1
still_none at change (Some (over e)) l' h none = absurd (false≢true (sym none))

pub none_beyond : (at from end : ℕ) (old new : List (Option LineState)) → LinesAsked at from (max from end) old new → NoneFrom end old → NoneFrom end new
none_beyond at from end old new asked none = λ d beyond.
    ⊎_elim (λ before. ap has_exchange (asked.below d before) ∙ none d beyond)
    (λ on. ⊎_elim
    (λ inside. still_none at None (line_at old d) (line_at new d) (asked.inside d inside on) (none d beyond))
    (λ above. ap has_exchange (asked.above d above) ∙ none d beyond)
    (cases_lt d (max from end)))
    (cases_lt d from)

pub none_beyond_change : (at from end d : ℕ) (change : LineChange) (old new : List (Option LineState)) → d < end → LineChanges at from d change old new → NoneFrom end old → NoneFrom end new
none_beyond_change at from end d change old new below h none = λ e beyond. ap has_exchange (h.above e (omega arith)) ∙ none e beyond

-- a line that gives a change has a program, and can change so
asked_change : (at : ℕ) (change : LineChange) (l l' : Option LineState) → IsAskedOf at (Some change) l l' → (has_exchange l ≡ true) × (is_change change ≡ true)
asked_change at change None l' h = let never : Some change ≡ None = h.0 in absurd cc
asked_change at change (Some quiet) l' h = let never : Some change ≡ None = h.0 in absurd cc
asked_change at change (Some (over e)) l' h = (refl, h.1.possible)

pub change_fits : (at : ℕ) (old new : LinesState) (d : ℕ) (change : LineChange) → GoesOverLines at old (Some (d, change)) new →
    (has_exchange (line_at old.lines d) ≡ true) × (is_change change ≡ true)
change_fits at old new d change h = asked_change at change (line_at old.lines d) (line_at new.lines d) h.1.changes

-- Lines beyond the last that has a program

hooks_keep : (off : Bool) (answer : Put) (l l' : Option LineState) → HooksBy off answer l l' → has_exchange l' ≡ has_exchange l
hooks_keep off answer None l' h = ap has_exchange h.1
hooks_keep off answer (Some quiet) l' h = ap has_exchange h.1
hooks_keep off answer (Some (over e)) l' h = ap has_exchange h.2

pub none_beyond_hook : (end d : ℕ) (off : Bool) (answer : Put) (old new : List (Option LineState)) → HooksLine d off answer old new → NoneFrom end old → NoneFrom end new
none_beyond_hook end d off answer old new h before = λ k beyond.
    let long : length new ≡ length old = ap length h.2 ∙ length-set old d h.0 in
    ⊎_elim
    (λ same. ⊎_elim
    (λ fits. ap (λ l. has_exchange (line_at l k)) h.2 ∙ ap (λ n. has_exchange (line_at (slice_set old d h.0) n)) same ∙ ap has_exchange (get_or-set_same old d h.0 None fits)
    ∙ hooks_keep off answer (line_at old d) h.0 h.1 ∙ before d (subst (λ n. end ≤ n) same beyond))
    (λ past. ap has_exchange (get_or_past new k None (omega (arith, long, past, same))))
    (cases_lt d (length old)))
    (λ other. ap (λ l. has_exchange (line_at l k)) h.2 ∙ ap has_exchange (get_or-set_other old d k h.0 None other) ∙ before k beyond)
    (cases_eq k d)

-- No device gets a line by what its line is asked for

asked_none : (at : ℕ) (change : Option LineChange) (l l' : Option LineState) → IsAskedOf at change l l' → l ≡ None → l' ≡ None
asked_none at change None l' h none = h.1
asked_none at change (Some quiet) l' h none = let never : Some quiet ≡ None = none in absurd cc
asked_none at change (Some (over e)) l' h none = let never : Some (over e) ≡ None = none in absurd cc

pub no_lines_asked : (at from to : ℕ) (old new : List (Option LineState)) → LinesAsked at from to old new → NoLines old → NoLines new
no_lines_asked at from to old new asked none = λ d.
    ⊎_elim (λ before. asked.below d before ∙ none d)
    (λ on. ⊎_elim
    (λ inside. asked_none at None (line_at old d) (line_at new d) (asked.inside d inside on) (none d))
    (λ above. asked.above d above ∙ none d)
    (cases_lt d to))
    (cases_lt d from)

-- a line gives a change only where there is one
pub no_lines_changed : (at from d : ℕ) (change : LineChange) (old new : List (Option LineState)) → LineChanges at from d change old new → NoLines old → NoLines new
no_lines_changed at from d change old new h none = λ e.
    absurd (false≢true (sym (ap has_exchange (none d)) ∙ (asked_change at change (line_at old d) (line_at new d) h.changes).0))

hooked_none : (off : Bool) (answer : Put) (l l' : Option LineState) → HooksBy off answer l l' → l ≡ None → l' ≡ None
hooked_none off answer None l' h none = h.1
hooked_none off answer (Some quiet) l' h none = let never : Some quiet ≡ None = none in absurd cc
hooked_none off answer (Some (over e)) l' h none = let never : Some (over e) ≡ None = none in absurd cc

no_lines_set : (d : ℕ) (l : Option LineState) (old : List (Option LineState)) → l ≡ None → NoLines old → NoLines (slice_set old d l)
no_lines_set d l old is none = λ k.
    ⊎_elim
    (λ same. ⊎_elim
    (λ fits. ap (λ n. line_at (slice_set old d l) n) same ∙ get_or-set_same old d l None fits ∙ is)
    (λ past. get_or_past (slice_set old d l) k None (omega (arith, length-set old d l, past, same)))
    (cases_lt d (length old)))
    (λ other. get_or-set_other old d k l None other ∙ none k)
    (cases_eq k d)

pub no_lines_hooked : (d : ℕ) (off : Bool) (answer : Put) (old new : List (Option LineState)) → HooksLine d off answer old new → NoLines old → NoLines new
no_lines_hooked d off answer old new h none =
    subst (λ lines. NoLines lines) (sym h.2) (no_lines_set d h.0 old (hooked_none off answer (line_at old d) h.0 h.1 (none d)) none)

-- a device without a line is attached
pub no_lines_noted : (d : ℕ) (has_line : Bool) (old : List (Option LineState)) → has_line ≡ false → NoLines old →
    NoLines (slice_set old d (if has_line then Some quiet else None))
no_lines_noted d has_line old is none = no_lines_set d (if has_line then Some quiet else None) old (ap (λ (b : Bool). if b then Some quiet else None) is) none
