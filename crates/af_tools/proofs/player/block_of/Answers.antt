use Rattle.std.proofs.Common.{◌≤◌, ◌*◌, ◌∙◌, ℕ, Option, ap, ap₂, subst, sym}
use Rattle.af_sample.specs.SampleTypes.{frame_bytes}
use Rattle.af_cli.specs.Sizes.{block_frames, greatest_block}
use Rattle.af_cli.proofs.FrameSizeLemmas.{frame_size, some_frames}
use Rattle.af_tools.specs.Pacing.{ahead_frames, paced_block}
use Rattle.af_tools.proofs.PacingLemmas.{paced_some}
use Rattle.af_tools.proofs.player.block_of.Goals as goal

pub returns-clause-value : goal.returns-clause-value
returns-clause-value c = c.block_frames.ensures.value ∙ ap₂ (λ (n w : ℕ). block_frames n w) (c.paced_block.ensures ∙ ap (λ (a : Option ℕ). paced_block a c.args.job.now.block) c.ahead_frames.ensures) c.frame_bytes-frame.ensures

pub returns-clause-block : goal.returns-clause-block
returns-clause-block c =
    let sound = c.args.sound in
    let ahead = ahead_frames c.args.rate c.args.job.now in
    let same = c.block_frames.ensures.value ∙ ap₂ (λ (n w : ℕ). block_frames n w) (c.paced_block.ensures ∙ ap (λ (a : Option ℕ). paced_block a c.args.job.now.block) c.ahead_frames.ensures) c.frame_bytes-frame.ensures in
    let some = some_frames (paced_block ahead c.args.job.now.block) (frame_bytes sound.ty sound.channels) (frame_size sound.ty sound.channels c.requires.count) (paced_some ahead c.args.job.now.block c.requires.begun) in
    record {
      count = c.requires.count;
      some = subst (λ (n : ℕ). 1 ≤ n) (sym same) some;
      fits = subst (λ (n : ℕ). c.block_frames.result * n ≤ greatest_block) c.frame_bytes-frame.ensures c.block_frames.ensures.fits;
    }
