-- The runs of sounds that children are given, by the acts.
use Rattle.std.specs.Prelude.{◌≡◌, ⊤, ℕ, ◌+◌, ◌≤◌, List, [], ◌∷◌, ◌++◌}
use Rattle.af_process.specs.declared.act.BeganGot.TheVariants.{Child, Failed, NoMemory}
use Rattle.af_process.specs.Acts.{Told, noted, began, given, finished}

-- these are contiguous parts of a list, in its order, and no two overlap
abbrev pub ArePartsInOrder : {A : Type 0} → List (List A) → List A → Type 0
ArePartsInOrder [] xs = ⊤
ArePartsInOrder {A} (part ∷ parts) xs = (before : List A) × (after : List A) × (xs ≡ before ++ (part ++ after))
    × ArePartsInOrder parts after

-- the sounds that were noted
abbrev pub sounds_told : List Told → List (List ℕ)
sounds_told [] = []
sounds_told (noted sound ∷ acts) = sound ∷ sounds_told acts
sounds_told (began words got ∷ acts) = sounds_told acts
sounds_told (given child offered done ∷ acts) = sounds_told acts
sounds_told (finished child status ∷ acts) = sounds_told acts

-- the pieces that were given before the next child began
abbrev pub pieces_told : List Told → List (List ℕ)
pieces_told [] = []
pieces_told (noted sound ∷ acts) = pieces_told acts
pieces_told (began words (Child child) ∷ acts) = []
pieces_told (began words Failed ∷ acts) = pieces_told acts
pieces_told (began words NoMemory ∷ acts) = pieces_told acts
pieces_told (given child offered done ∷ acts) = offered ∷ pieces_told acts
pieces_told (finished child status ∷ acts) = pieces_told acts

-- the pieces that each child was given, in the order of the starts
abbrev pub runs_told : List Told → List (List (List ℕ))
runs_told [] = []
runs_told (noted sound ∷ acts) = runs_told acts
runs_told (began words (Child child) ∷ acts) = pieces_told acts ∷ runs_told acts
runs_told (began words Failed ∷ acts) = runs_told acts
runs_told (began words NoMemory ∷ acts) = runs_told acts
runs_told (given child offered done ∷ acts) = runs_told acts
runs_told (finished child status ∷ acts) = runs_told acts

-- how many starts were made, except those that found no memory
abbrev pub starts_told : List Told → ℕ
starts_told [] = 0
starts_told (noted sound ∷ acts) = starts_told acts
starts_told (began words (Child child) ∷ acts) = starts_told acts + 1
starts_told (began words Failed ∷ acts) = starts_told acts + 1
starts_told (began words NoMemory ∷ acts) = starts_told acts
starts_told (given child offered done ∷ acts) = starts_told acts
starts_told (finished child status ∷ acts) = starts_told acts

-- No sound was given to two children: what each was given is a contiguous part of all sounds, in order, and after what the child
-- before it was given. No more starts were made than one and the restarts.
pub record FeedsOnce (restarts : ℕ) (acts : List Told) : Type 0 where
  pub parts : ArePartsInOrder (runs_told acts) (sounds_told acts)
  pub starts : starts_told acts ≤ restarts + 1
