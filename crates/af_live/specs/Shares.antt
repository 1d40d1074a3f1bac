-- What a link is given between two polls: one read, and as many bytes as its share of writes. A link that asked for more is cut,
-- and is ready for it after the next poll.
use Rattle.std.specs.Prelude.{◌≡◌, ◌⊎◌, ℕ, zero, suc, ◌≤◌, ◌<◌, ◌-◌, ◌==◌, nat_lt, Bool, true, false, ◌&&◌, ◌||◌, not, List, [], ◌∷◌, slice_set, option_map}
use Rattle.std.specs.declared.option.Option.{Option}
use Rattle.std.specs.declared.option.Option.TheVariants.{None, Some}
use Rattle.af_world.specs.declared.world.LinkGot.{LinkGot}
use Rattle.af_world.specs.declared.world.LinkGot.TheVariants as got
use Rattle.af_world.specs.declared.world.LinkTook.{LinkTook}
use Rattle.af_world.specs.declared.world.LinkTook.TheVariants as took
use Rattle.af_live.specs.declared.link_table.LinkEntry.{LinkEntry}
use Rattle.af_live.specs.LinkTable.{is_drained, link_at, may_hide, whole_share}

-- Reads

-- no read was made of the link since the last poll
abbrev pub may_read : Option LinkEntry → Bool
may_read None = false
may_read (Some link) = link.share.may_read

-- A read was made. The link is drained then, or it is not known whether more has come.
abbrev pub after_read : Bool → LinkEntry → LinkEntry
after_read drains link =
    record link { drained = link.drained || drains; share = record link.share { may_read = false } }

-- a read was interrupted and is to be made again: the link stays ready
abbrev pub after_interrupt : LinkEntry → LinkEntry
after_interrupt link = record link { readable = true }

-- a read was refused, since one was made since the last poll
abbrev pub after_read_cut : LinkEntry → LinkEntry
after_read_cut link = record link { share = record link.share { read_cut = true } }

-- A read drained its link: it gave fewer bytes than there was room for, and the link hides nothing after them.
abbrev pub has_drained : ℕ → ℕ → Option LinkEntry → Bool
has_drained n room link = nat_lt n room && not (may_hide link)

-- Why a read gave nothing so far, and what it does to its link. The link is drained; or a read was made since the last poll, and
-- the link is cut; or the system has nothing, and tells of what comes; or the read was interrupted.
abbrev pub GivesNothing : ℕ → List (Option LinkEntry) → List (Option LinkEntry) → Type 0
GivesNothing k old new = ((is_drained (link_at old k) ≡ true) × (new ≡ old))
    ⊎ ((is_drained (link_at old k) ≡ false) × (may_read (link_at old k) ≡ false)
    × (new ≡ slice_set old k (option_map after_read_cut (link_at old k))))
    ⊎ ((is_drained (link_at old k) ≡ false) × (may_read (link_at old k) ≡ true)
    × ((new ≡ slice_set old k (option_map (after_read (not (may_hide (link_at old k)))) (link_at old k)))
    ⊎ (new ≡ slice_set old k (option_map after_interrupt (link_at old k)))))

-- What a read into so much room does to the links. One is made only if none was since the last poll.
abbrev pub AfterRead : ℕ → ℕ → LinkGot → List (Option LinkEntry) → List (Option LinkEntry) → Type 0
AfterRead k room (got.Bytes n) old new = (may_read (link_at old k) ≡ true)
    × (new ≡ slice_set old k (option_map (after_read (has_drained n room (link_at old k))) (link_at old k)))
AfterRead k room got.NotYet old new = GivesNothing k old new
AfterRead k room got.Ended old new = (may_read (link_at old k) ≡ true)
    × (new ≡ slice_set old k (option_map (after_read false) (link_at old k)))
AfterRead k room got.Failed old new = new ≡ old

-- Writes

-- how many bytes may still be written to the link until the next poll
abbrev pub room_of : Option LinkEntry → ℕ
room_of None = 0
room_of (Some link) = link.share.room

-- Bytes of a piece were taken. The link is cut if its share ended before the piece did.
abbrev pub after_write : ℕ → ℕ → LinkEntry → LinkEntry
after_write n piece link = record link {
  share = record link.share {
    room = link.share.room - n;
    write_cut = link.share.write_cut || (n == link.share.room && nat_lt n piece);
  };
}

-- a write was interrupted and is to be made again: the link stays ready
abbrev pub to_write : LinkEntry → LinkEntry
to_write link = record link { writable = true }

-- What a write of a piece of so many bytes does to the links. It takes no more than the share has room for, and that much less is
-- left of the share. Where it took nothing of a share that is left, the system had no room, or it was interrupted.
abbrev pub AfterWrite : ℕ → ℕ → LinkTook → List (Option LinkEntry) → List (Option LinkEntry) → Type 0
AfterWrite k piece took.Failed old new = new ≡ old
AfterWrite k piece (took.Took n) old new = (n ≤ room_of (link_at old k))
    × ((new ≡ slice_set old k (option_map (after_write n piece) (link_at old k)))
    ⊎ ((n ≡ 0) × (0 < room_of (link_at old k))
    × ((new ≡ old) ⊎ (new ≡ slice_set old k (option_map to_write (link_at old k))))))

-- Polls

-- something was refused to the link since its share was used up
abbrev pub is_cut : Option LinkEntry → Bool
is_cut None = false
is_cut (Some link) = link.share.read_cut || link.share.write_cut

-- some link at this number or above it is cut
abbrev pub cut_from : ℕ → List (Option LinkEntry) → Bool
cut_from n [] = false
cut_from zero (link ∷ links) = is_cut link || cut_from 0 links
cut_from (suc n) (link ∷ links) = cut_from n links

abbrev pub some_cut : List (Option LinkEntry) → Bool
some_cut links = cut_from 0 links

-- A poll gives a link a new share. Where it was cut, it is ready for what it was cut from.
abbrev pub with_new_share : LinkEntry → LinkEntry
with_new_share link = record link {
  readable = link.readable || link.share.read_cut;
  writable = link.writable || link.share.write_cut;
  share = whole_share;
}

-- each link at this number or above it has a new share
abbrev pub renewed_from : ℕ → List (Option LinkEntry) → List (Option LinkEntry)
renewed_from n [] = []
renewed_from zero (link ∷ links) = option_map with_new_share link ∷ renewed_from 0 links
renewed_from (suc n) (link ∷ links) = link ∷ renewed_from n links

abbrev pub all_renewed : List (Option LinkEntry) → List (Option LinkEntry)
all_renewed links = renewed_from 0 links

-- no link is held at this number or above it
abbrev pub NoneHeldFrom : ℕ → List (Option LinkEntry) → Type 0
NoneHeldFrom n links = (k : ℕ) → n ≤ k → link_at links k ≡ None
