-- The streams of the links that are held: each link has one of its own.
use Rattle.std.specs.Prelude.{◌≡◌, ℕ, true, List, is_some}
use Rattle.std.specs.declared.option.Option.{Option}
use Rattle.std.specs.declared.option.Option.TheVariants.{None, Some}
use Rattle.mio.specs.declared.net.stream.TcpStream.{TcpStream}
use Rattle.slab.specs.Slab.{Slab, get, Updates}
use Rattle.af_live.specs.declared.link_table.LinkEntry.{LinkEntry}
use Rattle.af_live.specs.declared.sockets.Sockets.{Sockets}
use Rattle.af_live.specs.LinkTable.{link_at}

-- the key of the stream of a link that is held
abbrev pub key_of : Option LinkEntry → Option ℕ
key_of None = None
key_of (Some link) = Some link.key

-- no two links that are held have one stream
abbrev pub AreApart : List (Option LinkEntry) → Type 0
AreApart links =
    (i j key : ℕ) → key_of (link_at links i) ≡ Some key → key_of (link_at links j) ≡ Some key → i ≡ j

module _ {S : Type 0} where
  -- the same keys have a stream
  abbrev pub SameHeld : Slab S → Slab S → Type 0
  SameHeld old new = (key : ℕ) → is_some (get new key) ≡ is_some (get old key)

  -- no two links have one stream, and the stream of each link is there
  pub record OwnStreams (streams : Slab S) (links : List (Option LinkEntry)) : Type 0 where
    pub apart : AreApart links
    pub there : (k key : ℕ) → key_of (link_at links k) ≡ Some key → is_some (get streams key) ≡ true

-- each link that is held has a stream of its own; before a world listens it holds none
unfoldable pub HoldsOwn : Option Sockets → List (Option LinkEntry) → Type 0
HoldsOwn None links = (k : ℕ) → key_of (link_at links k) ≡ None
HoldsOwn (Some sockets) links = OwnStreams sockets.streams links

-- a call that takes no stream in and lets none go
abbrev pub KeepsStreams : Option Sockets → Option Sockets → Type 0
KeepsStreams None new = new ≡ None
KeepsStreams (Some sockets) None = ⊥
KeepsStreams (Some sockets) (Some new) = SameHeld sockets.streams new.streams

-- the stream of a link is let go, if it is held, and no other
abbrev pub LetsGo : Option LinkEntry → Option Sockets → Option Sockets → Type 0
LetsGo link None new = new ≡ None
LetsGo link (Some sockets) None = ⊥
LetsGo None (Some sockets) (Some new) = SameHeld sockets.streams new.streams
LetsGo (Some link) (Some sockets) (Some new) = Updates sockets.streams new.streams link.key None

-- if each link had a stream of its own before a poll, each has one after it
unfoldable pub KeepsOwn : Slab TcpStream → List (Option LinkEntry) → Slab TcpStream → List (Option LinkEntry) → Type 0
KeepsOwn streams links streams' links' = OwnStreams streams links → OwnStreams streams' links'

-- the same of a wait
unfoldable pub StaysOwn : Option Sockets → List (Option LinkEntry) → Option Sockets → List (Option LinkEntry) → Type 0
StaysOwn old links new links' = HoldsOwn old links → HoldsOwn new links'
