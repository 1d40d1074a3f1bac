-- Code that comes through parts of a program, one after another.
use Rattle.std.proofs.Common.{List, ◌∷◌, ◌≡◌, refl, sym, ap, ◌∙◌, inl, inr}
use Rattle.std.proofs.Math.Path.{fun_ext}
use Rattle.std.specs.Prelude.{Result, Ok, Err, IsOk}
use Rattle.af_toolkit.specs.Parts.{Deeds, Goes, IsFront, IsProgramKind, Outcome, Part, ProgramKind, after_deeds, answered, called, followed, goes_on, has_value, outcome}

-- Parts that came to values, whatever they did. The first of two parts came to one if both did.
pub first_ok : {S D F X Y : Type 0} (deeds : Deeds D) (part : Part S D F X) (next : X → Part S D F Y) (s : S) → IsOk (goes_on deeds part next s).end → IsOk (part s).end
unfolding goes_on
first_ok {S} {X = X} deeds part next s ok = elim (part s).end as (λ (end : Result (X × S) _). IsOk (followed deeds (part s).did end (λ y. next y.0 y.1)).end → IsOk end) [
  | Ok y ↦ λ more. refl
  | Err finish ↦ λ more. more
] ok

-- what follows a part that is known
pub goes_by : {S D F X Y : Type 0} (deeds : Deeds D) (part : Part S D F X) (next : X → Part S D F Y) {s : S} {did : D} {x : X} {there : S} → part s ≡ outcome did (Ok (x, there)) → goes_on deeds part next s ≡ after_deeds deeds did (next x there)
unfolding goes_on
goes_by {S} {D} {F} {X} deeds part next is = ap (λ (o : Outcome D (X × S) F). followed deeds o.did o.end (λ y. next y.0 y.1)) is

-- a call was answered with a value, and this follows it
pub record IsAnswered {S D F X Y : Type 0} (deeds : Deeds D) (did : D) (answer : Result X F) (there : S) (next : X → Part S D F Y) (o : Outcome D (Y × S) F) : Type 0 where
  pub value : X
  pub good : answer ≡ Ok value
  pub is : o ≡ after_deeds deeds did (next value there)
  pub last : IsOk (next value there).end

pub called_first : {S D F X Y : Type 0} (deeds : Deeds D) (did : D) (answer : Result X F) (there : S) (next : X → Part S D F Y) →
    (let o : Outcome D (Y × S) F = followed deeds did (answered answer there) (λ y. next y.0 y.1) in IsOk o.end → IsAnswered deeds did answer there next o)
called_first deeds did (Ok x) there next ok = record { value = x; good = refl; is = refl; last = ok }
called_first deeds did (Err finish) there next ok = cc

-- the same where nothing follows
pub called_last : {S D F X : Type 0} (did : D) (answer : Result X F) (there : S) → IsOk (called did answer there).end → (x : X) × (answer ≡ Ok x) × (called did answer there ≡ outcome did (Ok (x, there)))
called_last did (Ok x) there ok = (x, refl, refl)
called_last did (Err finish) there ok = cc

-- a part has come to another, which is what is left of it
pub record Reached {S D F E O X : Type 0} (kind : ProgramKind S D F E O) (part now : Part S D F X) (before after : O) : Type 0 where
  pub goes : (s : S) → kind.Stands before s → (there : S) × kind.Stands after there × (did : D) × (part s ≡ after_deeds kind.deeds did (now there)) × kind.Shows before did after

module _ {S D F E O : Type 0} {kind : ProgramKind S D F E O} (laws : IsProgramKind kind) where
  joined_after : {X : Type 0} (d e : D) (o : Outcome D X F) → after_deeds kind.deeds d (after_deeds kind.deeds e o) ≡ after_deeds kind.deeds (kind.deeds.joined d e) o
  joined_after {X} d e o = ap (λ (f : D). outcome {X = X} {F = F} f o.end) (sym (laws.joined_twice d e o.did))

  front_after : (first did whole : D) → IsFront kind.deeds did whole → IsFront kind.deeds (kind.deeds.joined first did) (kind.deeds.joined first whole)
  front_after first did whole front = (front.0, ap (λ d. kind.deeds.joined first d) front.1 ∙ sym (laws.joined_twice first did front.0))

  -- within the first of two parts, code is within both
  pub front_followed : {X Y : Type 0} (did whole : D) (end : Result X F) (next : X → Outcome D Y F) → IsFront kind.deeds did whole → IsFront kind.deeds did (followed kind.deeds whole end next).did
  front_followed did whole (Ok x) next front = (kind.deeds.joined front.0 (next x).did, ap (λ d. kind.deeds.joined d (next x).did) front.1 ∙ laws.joined_twice did front.0 (next x).did)
  front_followed did whole (Err finish) next front = front

  pub goes_stop : {X Y : Type 0} {part : Part S D F X} (next : X → Part S D F Y) {how : E} {result : Result Y E} {o p : O} → result ≡ Err how → Goes {X = X} kind part (Err how) o p → Goes kind (goes_on kind.deeds part next) result o p
  unfolding goes_on
  goes_stop {X} {Y} {part} next same g = rw same (record {
    came = λ s stands.
        let c = g.came s stands in
        let then : X × S → Outcome D (Y × S) F = λ y. next y.0 y.1 in (
          c.0,
          elim c.1 [
            | inl outer ↦ inl (outer.0, front_followed c.0 (part s).did (part s).end then outer.1)
            | inr end ↦ inr (end.0, end.1, ap (λ (o : Outcome D (X × S) F). followed kind.deeds o.did o.end then) end.2)
          ],
          c.2,
        );
  })

  -- Parts are joined in any order of the joints, and one that does nothing may be left out.
  followed_after : {X Y : Type 0} (d e : D) (end : Result X F) (next : X → Outcome D Y F) → followed kind.deeds (kind.deeds.joined d e) end next ≡ after_deeds kind.deeds d (followed kind.deeds e end next)
  followed_after {Y} d e (Ok x) next = ap (λ (f : D). outcome {X = Y} {F = F} f (next x).end) (laws.joined_twice d e (next x).did)
  followed_after d e (Err finish) next = refl

  followed_twice : {X Y Z : Type 0} (did : D) (end : Result X F) (next : X → Outcome D Y F) (last : Y → Outcome D Z F) →
      (let o : Outcome D Y F = followed kind.deeds did end next in followed kind.deeds o.did o.end last) ≡ followed kind.deeds did end (λ x. followed kind.deeds (next x).did (next x).end last)
  followed_twice did (Ok x) next last = followed_after did (next x).did (next x).end last
  followed_twice did (Err finish) next last = refl

  pub goes_on_twice : {X Y Z : Type 0} (part : Part S D F X) (next : X → Part S D F Y) (last : Y → Part S D F Z) →
      goes_on kind.deeds (goes_on kind.deeds part next) last ≡ goes_on kind.deeds part (λ x. goes_on kind.deeds (next x) last)
  unfolding goes_on
  goes_on_twice part next last = fun_ext (λ s. followed_twice (part s).did (part s).end (λ y. next y.0 y.1) (λ y. last y.0 y.1))

  pub value_first : {X Y : Type 0} (x : X) (next : X → Part S D F Y) → goes_on kind.deeds (has_value kind.deeds x) next ≡ next x
  unfolding goes_on
  value_first {Y} x next = fun_ext (λ s. ap (λ (d : D). outcome {X = Y × S} {F = F} d (next x s).end) (laws.nothing_first (next x s).did))

  -- a part that does nothing
  pub goes_value : {X : Type 0} (x : X) {o : O} → Goes kind (has_value kind.deeds x) (Ok x) o o
  goes_value x {o} = record { came = λ s stands. (s, stands, kind.deeds.nothing, refl, laws.shows_nothing o) }

  pub reached_here : {X : Type 0} {part : Part S D F X} {o : O} → Reached kind part part o o
  reached_here {X} {part} {o} = record {
    goes = λ s stands. (s, stands, kind.deeds.nothing, ap (λ (d : D). outcome {X = X × S} {F = F} d (part s).end) (sym (laws.nothing_first (part s).did)), laws.shows_nothing o);
  }

  -- a step more: what is left begins with a part that came to a value
  pub reached_on : {X Y : Type 0} {part : Part S D F Y} {first : Part S D F X} (next : X → Part S D F Y) {x : X} {o p q : O} → Reached kind part (goes_on kind.deeds first next) o p → Goes kind first (Ok x) p q → Reached kind part (next x) o q
  unfolding goes_on
  reached_on {X} {Y} {first} next {x} {o} {p} {q} r g = record {
    goes = λ s stands.
        let a = r.goes s stands in
        let c = g.came a.0 a.1 in (
          c.0,
          c.1,
          kind.deeds.joined a.2 c.2,
          a.3 ∙ ap (λ (b : Outcome D (X × S) F). after_deeds kind.deeds a.2 (followed kind.deeds b.did b.end (λ y. next y.0 y.1))) c.3 ∙ joined_after a.2 c.2 (next x c.0),
          laws.shows_joined o p q a.2 c.2 a.4 c.4,
        );
  }

  -- how a part goes, by how what is left of it goes
  pub reached_goes : {X : Type 0} {part now : Part S D F X} (result : Result X E) {o p q : O} → Reached kind part now o p → Goes kind now result p q → Goes kind part result o q
  reached_goes {X} {part} {now} (Ok x) {o} {p} {q} r g = record {
    came = λ s stands.
        let a = r.goes s stands in
        let c = g.came a.0 a.1 in
        (c.0, c.1, kind.deeds.joined a.2 c.2, a.3 ∙ ap (λ (b : Outcome D (X × S) F). after_deeds kind.deeds a.2 b) c.3, laws.shows_joined o p q a.2 c.2 a.4 c.4);
  }
  reached_goes {X} {part} {now} (Err how) {o} {p} {q} r g = record {
    came = λ s stands.
        let a = r.goes s stands in
        let c = g.came a.0 a.1 in (
          kind.deeds.joined a.2 c.0,
          elim c.1 [
            | inl outer ↦ (let f = front_after a.2 c.0 (now a.0).did outer.1 in inl (outer.0, (f.0, ap (λ (b : Outcome D (X × S) F). b.did) a.3 ∙ f.1)))
            | inr end ↦ inr (end.0, end.1, a.3 ∙ ap (λ (b : Outcome D (X × S) F). after_deeds kind.deeds a.2 b) end.2)
          ],
          laws.shows_joined o p q a.2 c.0 a.4 c.2,
        );
  }

  -- a part, and the one after it
  pub goes_through : {X Y : Type 0} {part : Part S D F X} (next : X → Part S D F Y) {x : X} {result : Result Y E} {o p q : O} → Goes kind part (Ok x) o p → Goes kind (next x) result p q → Goes kind (goes_on kind.deeds part next) result o q
  goes_through next {result} g h = reached_goes result (reached_on next reached_here g) h
