use Rattle.std.proofs.Common.{rules, ◌≡◌, ◌∙◌, List, ℕ, ap}
use Rattle.af_sound.specs.Served.{filed_bytes, served_bytes}
use Rattle.af_sound.proofs.SwappedLemmas.{served_again}
use Rattle.af_sound.proofs.served.to_file.Goals as goal

pub returns-then-eq-clause-again : goal.returns-then-eq-clause-again
returns-then-eq-clause-again c =
    let coding = c.args.coding in
    let sound : c.swap_in_place.new.bytes ≡ filed_bytes coding c.args.samples.now = search rules in
    ap (λ (l : List ℕ). served_bytes coding l) sound ∙ served_again coding c.args.samples.now c.requires.written c.requires.whole
