-- What was taken off is one step of advancing.
use Rattle.std.proofs.Common.{◌≡◌, ◌≤◌, ℕ, Bool, true, false, IsTrue, cond, subst, length, length-take-le, List, [], ◌∷◌, ◌++◌, append-nil, take, drop, map, refl, sym, ◌∙◌, ap}
use Rattle.std.proofs.lemmas.List.{take-append-drop}
use Rattle.std.proofs.Math.Seq.{take-append_seam, drop-append_seam}
use Rattle.std.specs.declared.option.Option.{Option}
use Rattle.std.specs.declared.option.Option.TheVariants.{None, Some}
use Rattle.af_wire.specs.declared.order.Order.{Order}
use Rattle.af_wire.specs.Front.{setup_front, frame_front}
use Rattle.af_wire.specs.declared.front.Front.TheVariants.{Frame}
use Rattle.af_wire.specs.declared.front.SetupFront.TheVariants as front
use Rattle.af_world.specs.declared.happening.Why.TheVariants as why
use Rattle.af_request.specs.Asked.{Asked}
use Rattle.af_request.specs.Requests.{asked_in}
use Rattle.af_request.specs.declared.reply.DeviceInfo.{DeviceInfo}
use Rattle.af_request.specs.Answer.{setup}
use Rattle.af_request.specs.Opcodes as opcodes
use Rattle.af_model.specs.State.{OpenLink, EnvironmentState, LinkState, open_link, closing_link}
use Rattle.af_model.specs.Waiting.{has_deferral}
use Rattle.af_model.specs.Reply.{reply_message}
use Rattle.af_model.specs.Advance.{advance, advance_by, advance_step, after_frame, after_front, after_setup, make_request, takes_more, without_front}
use Rattle.af_model.specs.Perform.{perform}
use Rattle.af_model.proofs.AdvanceLemmas.{advance-some, advance-none}
use Rattle.af_state.proofs.DeviceLemmas.{same_infos}
use Rattle.af_state.specs.Kept.{KeptDevice, kept_info}
use Rattle.af_state.specs.Deferrals.{has_waiting}
use Rattle.af_state.specs.SharedState.{KeptSharedState, StandsForLink, StandsForSharedState, StepsLink}
use Rattle.af_state.proofs.DeferralLemmas.{same_waiting}
use Rattle.af_core.specs.Stands.{Advances, AdvancesOn, AdvancesTo}

goes_on_at : (k : ℕ) (p : OpenLink) (env : KeptSharedState) (l : LinkState) (o : Option OpenLink) → advance_step k p ≡ o → AdvancesTo true o env l →
    (now : EnvironmentState) × StandsForSharedState env now × (advance k (open_link now l) ≡ advance k p)
goes_on_at k p env l None e s = absurd s
goes_on_at k p env l (Some q) e s = (q.environment, s.0, sym (advance-some k p q e ∙ ap (λ m. advance k (open_link q.environment m)) s.1))

pub goes_on : (k : ℕ) (p : OpenLink) (env : KeptSharedState) (l : LinkState) → AdvancesTo true (advance_step k p) env l →
    (now : EnvironmentState) × StandsForSharedState env now × (advance k (open_link now l) ≡ advance k p)
goes_on k p env l s = goes_on_at k p env l (advance_step k p) refl s

ends_at : (k : ℕ) (p : OpenLink) (env : KeptSharedState) (l : LinkState) (o : Option OpenLink) → advance_step k p ≡ o → AdvancesTo false o env l → advance k p ≡ p
ends_at k p env l None e s = advance-none k p e
ends_at k p env l (Some q) e s = absurd s

pub ends : (k : ℕ) (p : OpenLink) (env : KeptSharedState) (l : LinkState) → AdvancesTo false (advance_step k p) env l → advance k p ≡ p
ends k p env l s = ends_at k p env l (advance_step k p) refl s

-- a link with no input stays as it is
pub nothing_there : (k : ℕ) (p : OpenLink) → length p.link.rest ≡ 0 → advance k p ≡ p
unfolding advance
nothing_there k p none = ap (λ n. advance_by n k p) none

-- a good setup is taken off and replied to
pub setup_replied : (env : KeptSharedState) (order : Order) (l l1 l2 : LinkState) → setup_front l.rest ≡ front.Setup order →
    l1 ≡ record (without_front 8 l) { is_set_up = true; order = order } →
    l2 ≡ record l1 { pending = l1.pending ++ reply_message l1.order opcodes.setup (setup (map {A = KeptDevice} {B = DeviceInfo} kept_info env.devices)) 0 } →
    (a : EnvironmentState) → StandsForSharedState env a → AdvancesTo true (after_setup (setup_front l.rest) (open_link a l)) env l2
setup_replied env order l l1 l2 f e1 e2 a h =
    let replied : List DeviceInfo → LinkState = λ infos. record (without_front 8 l) { is_set_up = true; order = order; pending = l.pending ++ reply_message order opcodes.setup (setup infos) 0 } in
    let pushed : LinkState → LinkState = λ m. record m { pending = m.pending ++ reply_message m.order opcodes.setup (setup (map {A = KeptDevice} {B = DeviceInfo} kept_info env.devices)) 0 } in
    rw f (h, ap replied (sym (same_infos env.devices a.devices h.0)) ∙ sym (e2 ∙ ap pushed e1))

-- whether a link takes more is what the state says
pub takes_same : (env : KeptSharedState) (k : ℕ) (a : EnvironmentState) (l : LinkState) → StandsForSharedState env a → takes_more (has_deferral a.waiting k) l ≡ takes_more (has_waiting env.waits k) l
takes_same env k a l h = ap (λ b. takes_more b l) (sym (same_waiting a.devices env.waits a.waiting k h.1))

pub takes_none : (env : KeptSharedState) (k : ℕ) (a : EnvironmentState) (l : LinkState) → takes_more (has_waiting env.waits k) l ≡ false → StandsForSharedState env a → AdvancesTo false (advance_step k (open_link a l)) env l
takes_none env k a l none h = subst (λ b. AdvancesTo false (cond b (after_front k (open_link a l)) None) env l) (sym (takes_same env k a l h ∙ none)) tt

-- a link that takes more takes what stands at its front
pub takes_front : (env env' : KeptSharedState) (k : ℕ) (a : EnvironmentState) (l l' : LinkState) (taken : Bool) (o : Option OpenLink) → takes_more (has_waiting env.waits k) l ≡ true → after_front k (open_link a l) ≡ o → StandsForSharedState env a →
    AdvancesTo taken o env' l' → AdvancesTo taken (advance_step k (open_link a l)) env' l'
takes_front env env' k a l l' taken o more is h step =
    subst (λ b. AdvancesTo taken (cond b (after_front k (open_link a l)) None) env' l') (sym (takes_same env k a l h ∙ more)) (subst (λ x. AdvancesTo taken x env' l') (sym is) step)

-- A frame that was the front of a link's input

-- a frame before what is unread is the request that is made
frame_made : (k : ℕ) (a : EnvironmentState) (l : LinkState) (frame : List ℕ) →
    after_frame k (Frame (length frame)) (open_link a (record l { rest = frame ++ l.rest })) ≡ Some (make_request k (asked_in l.order frame) (open_link a l))
frame_made k a l frame =
    ap (λ (xs : List ℕ). Some (make_request k (asked_in l.order xs) (open_link a (record l { rest = drop (length frame) (frame ++ l.rest) })))) (take-append_seam frame l.rest)
    ∙ ap (λ (xs : List ℕ). Some (make_request k (asked_in l.order frame) (open_link a (record l { rest = xs })))) (drop-append_seam frame l.rest)

pub frame_performed : (k : ℕ) (env env' : KeptSharedState) (l l' : LinkState) (frame : List ℕ) (request : Asked) → asked_in l.order frame ≡ Some request → StepsLink (perform k request) env l env' l' →
    Advances true (after_frame k (Frame (length frame))) env (record l { rest = frame ++ l.rest }) env' l'
frame_performed k env env' l l' frame request asks step a h =
    subst (λ o. AdvancesTo true o env' l') (sym (frame_made k a l frame)) (subst (λ o. StandsForLink env' l' (make_request k o (open_link a l))) (sym asks) (step a h))

pub frame_refused : (k : ℕ) (env : KeptSharedState) (l l' : LinkState) (frame : List ℕ) → asked_in l.order frame ≡ None → l' ≡ closing_link why.Malformed l →
    Advances true (after_frame k (Frame (length frame))) env (record l { rest = frame ++ l.rest }) env l'
frame_refused k env l l' frame asks is a h =
    subst (λ o. AdvancesTo true o env l') (sym (frame_made k a l frame)) (subst (λ o. StandsForLink env l' (make_request k o (open_link a l))) (sym asks) (h, sym is))

-- a link whose front was taken off had that front before what is unread
pub front_before : (n : ℕ) (l l1 : LinkState) (front : List ℕ) → l1 ≡ without_front n l → front ≡ take n l.rest → record l1 { rest = front ++ l1.rest } ≡ l
front_before n l l1 front taken is =
    ap (λ (m : LinkState). record m { rest = front ++ m.rest }) taken ∙ ap (λ (xs : List ℕ). record l { rest = xs ++ drop n l.rest }) is
    ∙ ap (λ (xs : List ℕ). record l { rest = xs }) (take-append-drop n l.rest)

pub front_performed : (k n : ℕ) (env env' : KeptSharedState) (l l1 l' : LinkState) (front : List ℕ) → l1 ≡ without_front n l → front ≡ take n l.rest → n ≤ length l.rest →
    Advances true (after_frame k (Frame (length front))) env (record l1 { rest = front ++ l1.rest }) env' l' → Advances true (after_frame k (Frame n)) env l env' l'
front_performed k n env env' l l1 l' front taken is there step =
    let size : length front ≡ n = ap (λ (xs : List ℕ). length xs) is ∙ length-take-le n l.rest there in
    subst (λ m. Advances true (after_frame k (Frame m)) env l env' l') size
    (subst (λ (m : LinkState). Advances true (after_frame k (Frame (length front))) env m env' l') (front_before n l l1 front taken is) step)

-- Bytes that come

-- Bytes come to a link that has nothing unread, and begin with a frame. What comes after the frame is unread, and the frame is
-- performed: that is the first step from the link with all of the bytes.
pub frame_in_place : (k n : ℕ) (env env' : KeptSharedState) (l l1 l' : LinkState) (bytes frame after : List ℕ) →
    takes_more (has_waiting env.waits k) l ≡ true → IsTrue l.is_set_up × (l.rest ≡ []) × (frame_front l.order bytes ≡ Frame n) →
    length frame ≡ n → bytes ≡ frame ++ after → l1 ≡ record l { rest = l.rest ++ after } →
    Advances true (after_frame k (Frame (length frame))) env (record l1 { rest = frame ++ l1.rest }) env' l' →
    AdvancesOn k env (record l { rest = l.rest ++ bytes }) env' l'
frame_in_place k n env env' l l1 l' bytes frame after more (set_up, none, front) size whole taken step a h =
    let came : LinkState = record l { rest = l.rest ++ bytes } in
    let unread : l.rest ++ bytes ≡ bytes = ap (λ (xs : List ℕ). xs ++ bytes) none in
    let before : frame ++ (l.rest ++ after) ≡ l.rest ++ bytes = ap (λ (xs : List ℕ). frame ++ (xs ++ after)) none ∙ sym whole ∙ sym unread in
    let is : record l1 { rest = frame ++ l1.rest } ≡ came =
    ap (λ (m : LinkState). record m { rest = frame ++ m.rest }) taken ∙ ap (λ (xs : List ℕ). record l { rest = xs }) before in
    let performed : AdvancesTo true (after_frame k (Frame (length frame)) (open_link a came)) env' l' =
    subst (λ (m : LinkState). AdvancesTo true (after_frame k (Frame (length frame)) (open_link a m)) env' l') is (step a h) in
    let begins : frame_front l.order (l.rest ++ bytes) ≡ Frame (length frame) = ap (frame_front l.order) unread ∙ front ∙ ap (λ m. Frame m) (sym size) in
    goes_on k (open_link a came) env' l'
    (takes_front env env' k a came l' true _ more
    (ap (λ b. cond b (after_frame k (frame_front l.order (l.rest ++ bytes)) (open_link a came)) (after_setup (setup_front (l.rest ++ bytes)) (open_link a came))) set_up
    ∙ ap (λ f. after_frame k f (open_link a came)) begins) h performed)

-- nothing to take in leaves a link as it was
pub nothing_more : (l : LinkState) (bytes : List ℕ) → length bytes ≡ 0 → l ≡ record l { rest = l.rest ++ bytes }
nothing_more l [] e = ap (λ (xs : List ℕ). record l { rest = xs }) (sym (append-nil l.rest))
nothing_more l (x ∷ bytes) e = absurd cc

-- bytes that are taken in are unread
pub bytes_unread : (k : ℕ) (env : KeptSharedState) (l l' : LinkState) → l' ≡ l → AdvancesOn k env l env l'
bytes_unread k env l l' is a h = (a, h, ap (λ m. advance k (open_link a m)) is)
