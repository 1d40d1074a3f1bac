-- Whether a program runs does not hang on its takes and gives.
use Rattle.std.proofs.Common.{◌≡◌, ℕ, Bool, false, List, [], ◌∷◌, refl, sym, ap, ◌∙◌, IfSome}
use Rattle.std.specs.List.{fold}
use Rattle.std.proofs.lemmas.List.Sums.{fold-append}
use Rattle.std.specs.declared.option.Option.{Option}
use Rattle.std.specs.declared.option.Option.TheVariants.{None, Some}
use Rattle.af_io.specs.Observed.{Appended}
use Rattle.af_program.specs.declared.program.Gave.{Gave}
use Rattle.af_program.specs.declared.program.Gave.TheVariants as gives
use Rattle.af_program.specs.declared.program.Took.{Took}
use Rattle.af_program.specs.declared.program.Took.TheVariants as takes
use Rattle.af_program.specs.Acts.{ToldAct, gave_acts, took_acts, runs_after, runs_in}

runs-on : (runs : Bool) (before after : Option (List ToldAct)) (acts : List ToldAct) → ((r : Bool) → fold runs_after r acts ≡ r) → Appended before acts after →
    IfSome before (λ told. runs ≡ runs_in told) → IfSome after (λ told. runs ≡ runs_in told)
runs-on runs before None acts same added shown = tt
runs-on runs None (Some after) acts same added shown = absurd added
runs-on runs (Some before) (Some after) acts same added shown =
    shown ∙ sym (same (runs_in before)) ∙ sym (fold-append runs_after false before acts) ∙ ap runs_in (sym added)

pub runs-asked : (runs : Bool) (came : Gave) (into : List ℕ) (before after : Option (List ToldAct)) → Appended before (gave_acts came into) after →
    IfSome before (λ told. runs ≡ runs_in told) → IfSome after (λ told. runs ≡ runs_in told)
runs-asked runs (gives.Bytes n) into before after = runs-on runs before after (gave_acts (gives.Bytes n) into) (λ r. refl)
runs-asked runs gives.NotYet into before after = runs-on runs before after (gave_acts gives.NotYet into) (λ r. refl)
runs-asked runs gives.Ended into before after = runs-on runs before after (gave_acts gives.Ended into) (λ r. refl)

pub runs-offered : (runs : Bool) (answer : Took) (bytes : List ℕ) (before after : Option (List ToldAct)) → Appended before (took_acts answer bytes) after →
    IfSome before (λ told. runs ≡ runs_in told) → IfSome after (λ told. runs ≡ runs_in told)
runs-offered runs (takes.Bytes n) bytes before after = runs-on runs before after (took_acts (takes.Bytes n) bytes) (λ r. refl)
runs-offered runs takes.NoRoom bytes before after = runs-on runs before after (took_acts takes.NoRoom bytes) (λ r. refl)
runs-offered runs takes.Ended bytes before after = runs-on runs before after (took_acts takes.Ended bytes) (λ r. refl)
