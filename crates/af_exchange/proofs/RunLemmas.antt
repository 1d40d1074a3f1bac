-- What a run said and was handed goes on, act by act.
use Rattle.std.proofs.Common.{◌≡◌, ℕ, Bool, true, false, List, [], ◌∷◌, ◌++◌, map, take, drop, refl, sym, ap, ◌∙◌, subst, append_assoc, append-nil, arith}
use Rattle.std.specs.List.{fold}
use Rattle.std.proofs.lemmas.List.{take-append-drop, map-append}
use Rattle.std.proofs.lemmas.List.Sums.{fold-append}
use Rattle.af_phone.specs.declared.line.LineChange.{LineChange}
use Rattle.af_exchange.specs.Lines.{Reading, at_line, after_byte, changes_of, text_of, hook_text}
use Rattle.af_exchange.specs.Fronts.{SaysMore, SaysNoMore}
use Rattle.af_exchange.specs.Ledger.{Run, new_run}
use Rattle.af_exchange.specs.Told.{ChangesGiven, RunTold, PastRunTold}
use Rattle.af_exchange.specs.Dialogue.{PassesOver}

-- it gave bytes
pub told-gave : (run : Run) (left owed bytes : List ℕ) (is_open : Bool) → RunTold run left owed is_open → RunTold (record run { given = run.given ++ bytes }) (left ++ bytes) owed is_open
told-gave run left owed bytes is_open t = record {
  changes = record {
    read = t.changes.read;
    said = t.changes.said;
    parts = ap (λ x. x ++ bytes) t.changes.parts ∙ append_assoc t.changes.read left bytes;
    reads = t.changes.reads;
    lines = t.changes.lines;
  };
  lines = t.lines;
}

-- it took a part of what it is owed
pub told-took : (run : Run) (left owed : List ℕ) (count : ℕ) (is_open : Bool) → RunTold run left owed is_open →
    RunTold (record run { taken = run.taken ++ take count owed }) left (drop count owed) is_open
told-took run left owed count is_open t = record {
  changes = t.changes;
  lines = record {
    missed = t.lines.missed;
    handed = t.lines.handed ∙ ap (λ x. x ++ t.lines.missed) (sym (append_assoc run.taken (take count owed) (drop count owed) ∙ ap (λ x. run.taken ++ x) (take-append-drop count owed)));
    all = t.lines.all;
  };
}

-- it takes nothing any more
pub told-closed : (run : Run) (left owed : List ℕ) (is_open : Bool) → RunTold run left owed is_open → RunTold run left owed false
told-closed run left owed is_open t = record { changes = t.changes; lines = record { missed = t.lines.missed; handed = t.lines.handed; all = λ is. grind arith } }

-- more was read, which says these further changes
read-on : (given left left' : List ℕ) (changes : List (List ℕ)) (passed : List ℕ) (more : List LineChange) → left ≡ passed ++ left' →
    ((said : List LineChange) → fold after_byte (at_line said []) passed ≡ at_line (said ++ more) []) → ChangesGiven given left changes →
    ChangesGiven given left' (changes ++ map text_of more)
read-on given left left' changes passed more is says t = record {
  read = t.read ++ passed;
  said = t.said ++ more;
  parts = t.parts ∙ ap (λ x. t.read ++ x) is ∙ sym (append_assoc t.read passed left');
  reads = fold-append after_byte (at_line [] []) t.read passed ∙ ap (λ r. fold after_byte r passed) t.reads ∙ says t.said;
  lines = ap (λ x. x ++ map text_of more) t.lines ∙ sym (map-append text_of t.said more);
}

-- comments were skipped
pub told-passed : (run : Run) (left left' owed : List ℕ) (is_open : Bool) → PassesOver left left' → RunTold run left owed is_open → RunTold run left' owed is_open
told-passed run left left' owed is_open over t = record {
  changes = subst (ChangesGiven run.given left') (append-nil run.changes)
      (read-on run.given left left' run.changes over.0 [] over.1 (λ said. over.2 said ∙ ap (λ x. at_line x []) (sym (append-nil said))) t.changes);
  lines = t.lines;
}

-- a change was given
pub told-changed : (run : Run) (left owed : List ℕ) (is_open : Bool) (change : LineChange) (count : ℕ) → SaysMore (change ∷ []) count left → RunTold run left owed is_open →
    RunTold (record run { changes = run.changes ++ text_of change ∷ [] }) (drop count left) owed is_open
told-changed run left owed is_open change count says t = record {
  changes = read-on run.given left (drop count left) run.changes (take count left) (change ∷ []) (sym (take-append-drop count left)) says.2 t.changes;
  lines = t.lines;
}

-- a line is to be handed to it, and is owed
pub told-owed : (run : Run) (left owed line : List ℕ) → RunTold run left owed true → RunTold (record run { told = run.told ++ line }) left (owed ++ line) true
told-owed run left owed line t = record {
  changes = t.changes;
  lines = record {
    missed = [];
    handed = ap (λ x. x ++ line) (t.lines.handed ∙ ap (λ x. (run.taken ++ owed) ++ x) (t.lines.all refl) ∙ append-nil (run.taken ++ owed)) ∙ append_assoc run.taken owed line
        ∙ sym (append-nil (run.taken ++ (owed ++ line)));
    all = λ is. refl;
  };
}

-- it misses a line
pub told-missed : (run : Run) (left owed line : List ℕ) (is_open : Bool) → RunTold run left owed is_open → RunTold (record run { told = run.told ++ line }) left owed false
told-missed run left owed line is_open t = record {
  changes = t.changes;
  lines = record {
    missed = t.lines.missed ++ line;
    handed = ap (λ x. x ++ line) t.lines.handed ∙ append_assoc (run.taken ++ owed) t.lines.missed line;
    all = λ is. grind arith;
  };
}

-- it has begun, and is owed the hook as it is
pub told-begun : (hook : List ℕ) (off : Bool) → hook ≡ hook_text off → RunTold (new_run hook) [] (hook_text off) true
told-begun hook off is = record {
  changes = record { read = []; said = []; parts = refl; reads = refl; lines = refl };
  lines = record { missed = []; handed = is ∙ sym (append-nil (hook_text off)); all = λ is. refl };
}

-- what all that it gave comes to
reads-all : (given left : List ℕ) (changes : List (List ℕ)) (t : ChangesGiven given left changes) → changes_of given ≡ fold after_byte (at_line t.said []) left
reads-all given left changes t = ap changes_of t.parts ∙ fold-append after_byte (at_line [] []) t.read left ∙ ap (λ r. fold after_byte r left) t.reads

-- all changes were given
all-given : (given left : List ℕ) (changes : List (List ℕ)) (is_fault : Bool) → ChangesGiven given left changes → SaysNoMore is_fault left →
    (changes ≡ map text_of (changes_of given).changes) × ((changes_of given).is_fault ≡ is_fault)
all-given given left changes is_fault t none =
    let all = reads-all given left changes t in (
      t.lines ∙ ap (map text_of) (sym (ap (λ (r : Reading). r.changes) all ∙ (none t.said).0)),
      ap (λ (r : Reading). r.is_fault) all ∙ (none t.said).1,
    )

-- it has ended
pub told-ended : (run : Run) (left owed : List ℕ) (is_open is_fault : Bool) → RunTold run left owed is_open → SaysNoMore is_fault left → PastRunTold run
told-ended run left owed is_open is_fault t none = record {
  missed = owed ++ t.lines.missed;
  changes = (all-given run.given left run.changes is_fault t.changes none).0;
  told = t.lines.handed ∙ append_assoc run.taken owed t.lines.missed;
}

-- one more comment is skipped
pub passes-on : (before mid after : List ℕ) (count : ℕ) → PassesOver before mid → SaysMore [] count mid → after ≡ drop count mid → PassesOver before after
passes-on before mid after count over says rest = subst (λ x. PassesOver before x) (sym rest) (
  over.0 ++ take count mid,
  over.1 ∙ ap (λ x. over.0 ++ x) (sym (take-append-drop count mid)) ∙ sym (append_assoc over.0 (take count mid) (drop count mid)),
  λ changes. fold-append after_byte (at_line changes []) over.0 (take count mid) ∙ ap (λ r. fold after_byte r (take count mid)) (over.2 changes) ∙ says.2 changes
      ∙ ap (λ x. at_line x []) (append-nil changes),
)
