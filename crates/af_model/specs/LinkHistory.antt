-- What a log shows of a link since it was last opened.
use Rattle.std.specs.Prelude.{ℕ, ◌==◌, Bool, true, false, List, [], ◌++◌, if◌then◌else◌}
use Rattle.std.specs.List.{fold}
use Rattle.std.specs.declared.option.Option.{Option}
use Rattle.std.specs.declared.option.Option.TheVariants.{None, Some}
use Rattle.af_world.specs.declared.happening.Happening.{Happening}
use Rattle.af_world.specs.declared.happening.Happening.TheVariants.{Woke, Read, Wrote, Closed}
use Rattle.af_world.specs.declared.happening.ReadGot.{ReadGot}
use Rattle.af_world.specs.declared.happening.ReadGot.TheVariants.{Given, NotYet, Ended, Failed}
use Rattle.af_world.specs.declared.happening.Wake.TheVariants.{Opened}
use Rattle.af_world.specs.declared.happening.Why.{Why}
use Rattle.af_world.specs.Log.{Log}

-- The bytes that its reads gave; those that its writes took; whether a read reported its end; whether a read or a write of it
-- failed; and the cause for which it was closed, if it was.
pub record LinkHistory : Type 0 where
  pub gave : List ℕ
  pub took : List ℕ
  pub has_ended : Bool
  pub has_failed : Bool
  pub closed : Option Why

-- the history of a link that was just opened
abbrev pub no_history : LinkHistory
no_history = record { gave = []; took = []; has_ended = false; has_failed = false; closed = None }

abbrev pub note_read : ReadGot → LinkHistory → LinkHistory
note_read (Given bytes) h = record h { gave = h.gave ++ bytes }
note_read NotYet h = h
note_read Ended h = record h { has_ended = true }
note_read Failed h = record h { has_failed = true }

abbrev pub note_write : Option (List ℕ) → LinkHistory → LinkHistory
note_write None h = record h { has_failed = true }
note_write (Some bytes) h = record h { took = h.took ++ bytes }

-- the history of link k after one more happening
abbrev pub note_happening : ℕ → LinkHistory → Happening → LinkHistory
note_happening k h (Woke (Opened link)) = if link == k then no_history else h
note_happening k h (Read link got) = if link == k then note_read got h else h
note_happening k h (Wrote link offered took) = if link == k then note_write took h else h
note_happening k h (Closed link why) = if link == k then record h { closed = Some why } else h
note_happening k h _ = h

abbrev pub history : ℕ → Log → LinkHistory
history k log = fold (note_happening k) no_history log
