use Rattle.std.proofs.Common.{◌≡◌, ◌∙◌, ap, refl, slice_index, true}
use Rattle.af_sample.specs.declared.segment.TheConstants.{SEGMENTS}
use Rattle.af_sample.proofs.TableLemmas.{all_from}
use Rattle.af_sample.proofs.SegmentTable.{is_segment, table_segment}
use Rattle.af_sample.proofs.segment.segment_of.Goals as goal

passes : all_from is_segment 0 SEGMENTS ≡ true
passes = refl

pub returns : goal.returns
returns c = ap (slice_index SEGMENTS) c.from.ensures ∙ table_segment SEGMENTS passes refl c.args.magnitude c.requires
