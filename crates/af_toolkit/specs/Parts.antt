-- Parts of a program: what each does and how it ends, one after another, and how far code came in one.
use Rattle.std.specs.Prelude.{◌≡◌, ◌⊎◌, Bool, true, Result, Ok, Err}

-- A kind of deeds, as the bytes on a link: a program does nothing, or some deeds and then others.
pub record Deeds (D : Type 0) : Type 0 where
  pub nothing : D
  pub joined : D → D → D

-- What a part of a program has done, and how it ended: with a value, or with the end of the whole program.
pub record Outcome (D X F : Type 0) : Type 0 where
  pub did : D
  pub end : Result X F

abbrev pub outcome : {D X F : Type 0} → D → Result X F → Outcome D X F
outcome did end = record { did = did; end = end }

-- A part of a program goes by where the program stands. With its value it says where the program stands then.
abbrev pub Part : (S D F X : Type 0) → Type 0
Part S D F X = S → Outcome D (X × S) F

-- nothing is done, and this is the value
abbrev pub has_value : {S D F X : Type 0} → Deeds D → X → Part S D F X
has_value deeds x s = outcome deeds.nothing (Ok (x, s))

-- nothing is done, and the program ends
abbrev pub stops : {S D F X : Type 0} → Deeds D → F → Part S D F X
stops deeds finish s = outcome deeds.nothing (Err finish)

-- a value that is there leads to a part; without it the program ends
abbrev pub part_by : {S D F X Y : Type 0} → Deeds D → Result X F → (X → Part S D F Y) → Part S D F Y
part_by deeds (Ok x) next = next x
part_by deeds (Err finish) next = stops deeds finish

-- a call, by what it does, its answer, and where the program stands after a value
abbrev pub answered : {S F X : Type 0} → Result X F → S → Result (X × S) F
answered (Ok x) s = Ok (x, s)
answered (Err finish) s = Err finish

abbrev pub called : {S D F X : Type 0} → D → Result X F → S → Outcome D (X × S) F
called did answer s = outcome did (answered answer s)

-- these deeds come first
abbrev pub after_deeds : {D X F : Type 0} → Deeds D → D → Outcome D X F → Outcome D X F
after_deeds deeds did o = outcome (deeds.joined did o.did) o.end

-- what follows an outcome: the end of the program is its own end
abbrev pub followed : {D X Y F : Type 0} → Deeds D → D → Result X F → (X → Outcome D Y F) → Outcome D Y F
followed deeds did (Ok x) next = after_deeds deeds did (next x)
followed deeds did (Err finish) next = outcome did (Err finish)

-- a part, and the one that its value leads to
unfoldable pub goes_on : {S D F X Y : Type 0} → Deeds D → Part S D F X → (X → Part S D F Y) → Part S D F Y
goes_on deeds part next s = followed deeds (part s).did (part s).end (λ y. next y.0 y.1)

-- the same part of a program that ends for other causes too: each of its causes is one of these
abbrev pub end_among : {X F G : Type 0} → (name : F → G) → Result X F → Result X G
end_among name (Ok x) = Ok x
end_among name (Err finish) = Err (name finish)

abbrev pub part_among : {S D F G X : Type 0} → (name : F → G) → Part S D F X → Part S D G X
part_among name part s = outcome (part s).did (end_among name (part s).end)

-- A kind of programs: what they do; which ends their code reports for the end of a program, and which of these come from outside;
-- where a program stands, by what can be observed; and how what can be observed goes on by deeds.
pub record ProgramKind (S D F E O : Type 0) : Type 1 where
  pub deeds : Deeds D
  pub Reports : E → F → Type 0
  pub is_outer : E → Bool
  pub Stands : O → S → Type 0
  pub Shows : O → D → O → Type 0

-- Deeds may be joined in any order of the joints, and they show one after another.
pub record IsProgramKind {S D F E O : Type 0} (kind : ProgramKind S D F E O) : Type 0 where
  pub nothing_first : (d : D) → kind.deeds.joined kind.deeds.nothing d ≡ d
  pub joined_twice : (d e f : D) → kind.deeds.joined (kind.deeds.joined d e) f ≡ kind.deeds.joined d (kind.deeds.joined e f)
  pub shows_nothing : (o : O) → kind.Shows o kind.deeds.nothing o
  pub shows_joined : (o p q : O) (d e : D) → kind.Shows o d p → kind.Shows p e q → kind.Shows o (kind.deeds.joined d e) q

-- these deeds are the first of those
abbrev pub IsFront : {D : Type 0} → Deeds D → D → D → Type 0
IsFront {D} deeds did whole = (rest : D) × (whole ≡ deeds.joined did rest)

-- Code that did this ended without a value: something from outside ended it within a part, or the part ended the program.
abbrev pub Stopped : {S D F E O X : Type 0} → ProgramKind S D F E O → Outcome D X F → E → D → Type 0
Stopped {F = F} kind o how did =
    ((kind.is_outer how ≡ true) × IsFront kind.deeds did o.did)
    ⊎ ((finish : F) × kind.Reports how finish × (o ≡ outcome did (Err finish)))

-- Code that answers this came to the end of a part with this outcome, or ended within it. That is observed before and after.
abbrev pub Came : {S D F E O X : Type 0} → ProgramKind S D F E O → Outcome D (X × S) F → Result X E → O → O → Type 0
Came {S} {D} kind o (Ok x) before after =
    (s : S) × kind.Stands after s × (did : D) × (o ≡ outcome did (Ok (x, s))) × kind.Shows before did after
Came {D = D} kind o (Err how) before after = (did : D) × Stopped kind o how did × kind.Shows before did after

-- the same wherever the program stood before
pub record Goes {S D F E O X : Type 0} (kind : ProgramKind S D F E O) (part : Part S D F X) (result : Result X E)
    (before after : O) : Type 0 where
  pub came : (s : S) → kind.Stands before s → Came kind (part s) result before after
