use Rattle.std.proofs.Common.{Ok, ◌≡◌, ◌<◌, ◌≤◌, ◌⊎◌, ◌+◌, ◌-◌, ◌^◌, ◌++◌, ℕ, List, length, take, IsSome, Option, None, Some}
use Rattle.af_io.specs.Flow.{IsSpent}
use Rattle.af_toolkit.specs.Ends.{KeepsConnection}
use Rattle.af_toolkit.specs.ToolParts.{tool_sight}
use Rattle.af_tools.specs.Reading.{left_before}
use Rattle.af_tools.specs.Play.{plays_sound}
use Rattle.af_tools.specs.Sounds.{stated_after, FitsStated}
use Rattle.af_tools.proofs.PlayBlockLemmas.{ConsumedAll}
use Rattle.af_tools.proofs.PlayStepLemmas.{IsFilled}
use Rattle.af_tools.proofs.InStepLemmas.{IsStepped}
use Rattle.af_tools.proofs.SourceFrameLemmas.{BlockFits}
use Rattle.af_tools.proofs.play.play_blocks.Given as goal

-- A block was read, and those before it were played.
abbrev pub invariant-loop-block : goal.invariant-loop-block
invariant-loop-block g l = record {
  holds : KeepsConnection {X = Unit {0}} g.L.Link.left g.L.Link.faults l.initial.conn l.conn (Ok tt);
  count : g.S.Source.faults l.initial.source ≤ g.S.Source.faults l.source;
  block : length l.block ≡ l.size;
  served : length l.served ≡ 16000;
  within : l.filled ≤ l.size;
  permitted : l.given + l.filled ≤ l.most;
  stated : FitsStated l.left l.filled;
  ended : l.filled < l.size → IsSpent (g.S.Source.left l.source) ⊎ (l.left ≡ Some l.filled);
  few : l.course.frames ≤ l.given;
  fits : FitsStated l.sound.length l.given;
  rest : l.left ≡ stated_after l.sound.length l.given;
  given : ConsumedAll (l.given + l.filled) (left_before (take l.first l.fn.room) (g.S.Source.left l.initial.source)) (g.S.Source.left l.source);
  block_fits : BlockFits l.filled l.size l.width (l.sound.head + l.given);
  stepped : IsStepped l.sound.coding l.width l.pace l.fn.playback.told l.size l.sound.head l.course l.given (take l.filled l.block) (left_before (take l.first l.fn.room) (g.S.Source.left l.initial.source)) (g.S.Source.left l.source)
      (tool_sight g.L.Link.left g.L.Link.sent l.initial.conn None) (tool_sight g.L.Link.left g.L.Link.sent l.conn None);
  playing : (bytes : List ℕ) (held : Option (List ℕ)) → g.S.Source.left l.initial.source ≡ Some bytes → IsSome (g.S.Source.left l.source) →
      IsFilled (plays_sound l.sound l.fn.playback.block l.pace l.fn.playback.told (take l.first l.fn.room ++ bytes)) l.sound.coding l.width l.pace l.size l.course (l.sound.head + l.given) l.filled l.left l.block (g.S.Source.left l.source)
      (tool_sight g.L.Link.left g.L.Link.sent l.initial.conn held) (tool_sight g.L.Link.left g.L.Link.sent l.conn held);
}

abbrev pub decreases-loop-block : goal.decreases-loop-block
decreases-loop-block g l = 2 ^ 40 + 1 - l.given
