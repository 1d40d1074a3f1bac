-- Advancing a link: a complete setup or frame at the front of its input is taken off and answered.
use Rattle.std.specs.Prelude.{ℕ, zero, suc, Bool, not, true, List, ◌++◌, length, take, drop, if◌then◌else◌, ◌&&◌, nat_le, is_none}
use Rattle.std.specs.declared.option.Option.{Option}
use Rattle.std.specs.declared.option.Option.TheVariants.{None, Some}
use Rattle.af_limits.specs.Limits.{perform_limit}
use Rattle.af_world.specs.declared.happening.Why.TheVariants as why
use Rattle.af_wire.specs.declared.front.Front.{Front}
use Rattle.af_wire.specs.declared.front.Front.TheVariants.{NeedMore, Frame, Malformed}
use Rattle.af_wire.specs.declared.front.SetupFront.{SetupFront}
use Rattle.af_wire.specs.declared.front.SetupFront.TheVariants as front
use Rattle.af_wire.specs.Front.{setup_front, frame_front}
use Rattle.af_wire.specs.Message.{error}
use Rattle.af_request.specs.Asked.{Asked}
use Rattle.af_request.specs.Requests.{asked_in}
use Rattle.af_request.specs.Answer.{setup}
use Rattle.af_request.specs.Opcodes as opcodes
use Rattle.af_model.specs.State.{LinkState, OpenLink, open_link, say, closing_link}
use Rattle.af_model.specs.Waiting.{has_deferral}
use Rattle.af_model.specs.Reply.{reply_message, infos_of}
use Rattle.af_model.specs.Perform.{perform}

-- n bytes are taken off the front of the input
abbrev pub without_front : ℕ → LinkState → LinkState
without_front n l = record l { rest = drop n l.rest }

-- link k makes a request, or is closed by a frame that is no request
abbrev pub make_request : ℕ → Option Asked → OpenLink → OpenLink
make_request k None p = open_link p.environment (closing_link why.Malformed p.link)
make_request k (Some request) p = perform k request p

-- what a frame at the front of its input makes of link k; None if there is none yet
abbrev pub after_frame : ℕ → Front → OpenLink → Option OpenLink
after_frame k NeedMore p = None
after_frame k Malformed p = Some (open_link p.environment (closing_link why.Malformed p.link))
after_frame k (Frame n) p =
    Some (make_request k (asked_in p.link.order (take n p.link.rest)) (open_link p.environment (without_front n p.link)))

-- What a setup at the front of its input makes of a link: its byte order becomes the link's. A bad one is refused and closes the
-- link. Its answer has the number 0.
abbrev pub after_setup : SetupFront → OpenLink → Option OpenLink
after_setup front.NeedMore p = None
after_setup (front.Setup order) p =
    Some (say (open_link p.environment (record (without_front 8 p.link) { is_set_up = true; order = order }))
    (reply_message order opcodes.setup (setup (infos_of p.environment.devices)) 0))
after_setup (front.BadSetup order value) p =
    Some (say (open_link p.environment (closing_link why.BadSetup p.link)) (error order 1 value opcodes.setup 0))

-- nothing is taken off while a link has a deferred request or is closing, or while more than 16384 bytes wait to be sent to it
abbrev pub takes_more : Bool → LinkState → Bool
takes_more waits l = not waits && (is_none l.closing && nat_le (length l.pending) perform_limit)

abbrev pub after_front : ℕ → OpenLink → Option OpenLink
after_front k p =
    if p.link.is_set_up then after_frame k (frame_front p.link.order p.link.rest) p else after_setup (setup_front p.link.rest) p

-- one setup or frame is taken off; None if there is none
abbrev pub advance_step : ℕ → OpenLink → Option OpenLink
advance_step k p = if takes_more (has_deferral p.environment.waiting k) p.link then after_front k p else None

abbrev pub or_else : {A : Type 0} → A → (A → A) → Option A → A
or_else x f None = x
or_else x f (Some y) = f y

-- as long as there is one to take, at most n of them
abbrev pub advance_by : ℕ → ℕ → OpenLink → OpenLink
advance_by zero k p = p
advance_by (suc n) k p = or_else p (advance_by n k) (advance_step k p)

-- as long as there is one to take: each takes at least one byte off
unfoldable pub advance : ℕ → OpenLink → OpenLink
advance k p = advance_by (length p.link.rest) k p

-- link k gets these bytes, which a closing link never does
abbrev pub absorb : ℕ → List ℕ → OpenLink → OpenLink
absorb k bytes p =
    if is_none p.link.closing then advance k (open_link p.environment (record p.link { rest = p.link.rest ++ bytes })) else p
