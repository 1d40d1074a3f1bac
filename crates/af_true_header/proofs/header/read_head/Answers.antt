use Rattle.std.proofs.Common.{rules, refl, sym, subst, ◌∷◌, ◌++◌, ◌+◌, [], take, drop, slice_index, ℕ, List}
use Rattle.std.proofs.lemmas.List.{take_all, take_more}
use Rattle.af_sound.specs.Reading.{HasTaken}
use Rattle.af_true_header.proofs.ReadLemmas.{no_fault, not_open, same_head, split_after}
use Rattle.af_true_header.proofs.header.read_head.Goals as goal

pub returns-in-Head : goal.returns-in-Head
returns-in-Head c head whole =
    let i = c.loop-byte.byte-index in
    let piece = c.args.piece.now in
    let front = take i piece in
    let byte = slice_index piece i in
    same_head c.args.form (front ++ (byte ∷ [])) (drop (i + 1) piece) piece c.in-Head.head (split_after piece i byte c.loop-byte-test.true (search rules))
    ((c.in-Head.ensures.head c.args.form front c.in-Head.head c.loop-byte.invariant.taken).0 refl) head whole

pub returns-in-Bad : goal.returns-in-Bad
returns-in-Bad c head whole =
    let i = c.loop-byte.byte-index in
    let piece = c.args.piece.now in
    let front = take i piece in
    let byte = slice_index piece i in
    no_fault c.args.form (front ++ (byte ∷ [])) (drop (i + 1) piece) piece c.in-Bad._fault (split_after piece i byte c.loop-byte-test.true (search rules))
    ((c.in-Bad.ensures.bad c.args.form front c.in-Bad._fault c.loop-byte.invariant.taken).0 refl) head whole

pub loop-byte-preserved : goal.loop-byte-preserved
loop-byte-preserved c =
    let i = c.loop-byte.byte-index in
    let piece = c.args.piece.now in
    record {
      opens = c.in-More.ensures.open.0 refl;
      taken = subst (λ (l : List ℕ). HasTaken c.take.new.self c.args.form l) (sym (take_more piece i 0 c.loop-byte-test.true))
          (c.in-More.ensures.taken c.args.form (take i piece) c.loop-byte.invariant.taken);
    }

pub returns : goal.returns
returns c head whole =
    let piece = c.args.piece.now in
    let all = c.loop-byte-test.false in
    let taken = subst (λ (l : List ℕ). HasTaken c.loop-byte.reader c.args.form l) (take_all c.loop-byte.byte-index piece all) c.loop-byte.invariant.taken in
    not_open c.args.form c.loop-byte.reader piece taken c.loop-byte.invariant.opens head whole
