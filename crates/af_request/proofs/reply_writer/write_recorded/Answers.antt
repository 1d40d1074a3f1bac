use Rattle.std.proofs.Common.{◌≡◌, ◌+◌, ◌-◌, ◌*◌, ◌++◌, drop, length, take, replicate, rules, ap, ◌∙◌, ℕ, List}
use Rattle.af_wire.specs.Message.{head}
use Rattle.af_wire.specs.Order.{u32_bytes}
use Rattle.af_request.specs.Fields.{words_for}
use Rattle.af_request.specs.Opcodes as opcodes
use Rattle.af_request.proofs.ReplyMessageLemmas.{around_samples}
use Rattle.af_request.proofs.reply_writer.write_recorded.Goals as goal

pub returns-clause-bytes : goal.returns-clause-bytes
returns-clause-bytes c =
    let n = c.args.n in
    let samples : List ℕ = take n (drop 16 c.args.out.now) in
    let count : length samples ≡ n = search rules in
    let size : length c.put.new.out ≡ 16 = search rules in
    let first : take 8 c.put_head-at.new.out ≡ head c.args.order 1 opcodes.record c.args.sequence (2 + words_for n) = search rules in
    let second : take 12 c.put-at.new.out ≡ take 8 c.put_head-at.new.out ++ u32_bytes c.args.order c.args.time.0 = search rules in
    let third : take 16 c.put.new.out ≡ take 12 c.put-at.new.out ++ u32_bytes c.args.order n = search rules in
    let after : take c.put_zeros.result c.put_zeros.new.out ≡ samples ++ replicate (4 * words_for n - n) 0 = search rules in
    around_samples c.args.order c.put.new.out c.put_zeros.new.out samples opcodes.record c.args.sequence c.args.time.0 n c.put_zeros.result size (third ∙ ap (λ l. l ++ u32_bytes c.args.order n) (second ∙ ap (λ l. l ++ u32_bytes c.args.order c.args.time.0) first)) after count
