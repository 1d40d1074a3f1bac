-- The changes, hook calls and starts that acts have.
use Rattle.std.proofs.Common.{ℕ, List, [], ◌++◌, flat_map, ap, ◌∙◌}
use Rattle.std.proofs.lemmas.List.Concat.{flat_map-append}
use Rattle.std.specs.declared.option.Option.{Option}
use Rattle.std.specs.declared.option.Option.TheVariants.{None, Some}
use Rattle.af_io.specs.Observed.{Appended, Unchanged}
use Rattle.af_io.proofs.AppendedLemmas.{appended_on}
use Rattle.af_program.specs.Acts.{ToldAct}
use Rattle.af_program.proofs.LedgerLemmas.{no-act}
use Rattle.af_exchange.specs.Ledger.{Notes, Order, all_told, call_in, change_in, order_in}

-- what more acts have of this
all-more : {A : Type 0} (part : ToldAct → List A) (acts acts' : Option (List ToldAct)) (more : List ToldAct) → Appended acts more acts' →
    Appended (all_told part acts) (flat_map part more) (all_told part acts')
all-more part acts None more added = tt
all-more part None (Some after) more added = absurd added
all-more part (Some before) (Some after) more added = ap (flat_map part) added ∙ flat_map-append part before more

-- these acts were done
pub notes : (acts acts' : Option (List ToldAct)) (more : List ToldAct) → Appended acts more acts' → Notes (flat_map change_in more) (flat_map call_in more) (flat_map order_in more) acts acts'
notes acts acts' more added =
    record { changes = all-more change_in acts acts' more added; calls = all-more call_in acts acts' more added; starts = all-more order_in acts acts' more added }

-- none was done
pub notes-same : (acts acts' : Option (List ToldAct)) → Unchanged acts acts' → Notes [] [] [] acts acts'
notes-same acts acts' same = notes acts acts' [] (no-act acts acts' same)

-- more were done
pub notes-on : (given called : List (List ℕ)) (started : List Order) (given' called' : List (List ℕ)) (started' : List Order) (acts mid acts' : Option (List ToldAct)) →
    Notes given called started acts mid → Notes given' called' started' mid acts' → Notes (given ++ given') (called ++ called') (started ++ started') acts acts'
notes-on given called started given' called' started' acts mid acts' before after = record {
  changes = appended_on (all_told change_in acts) (all_told change_in mid) (all_told change_in acts') given given' before.changes after.changes;
  calls = appended_on (all_told call_in acts) (all_told call_in mid) (all_told call_in acts') called called' before.calls after.calls;
  starts = appended_on (all_told order_in acts) (all_told order_in mid) (all_told order_in acts') started started' before.starts after.starts;
}
