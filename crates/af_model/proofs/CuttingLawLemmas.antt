-- Bytes that come to a link in two pieces are as good as both at once.
use Rattle.std.proofs.Common.{◌≡◌, ℕ, zero, suc, ◌+◌, ◌*◌, ◌≤◌, ◌==◌, ◌||◌, ◌&&◌, Bool, true, false, cond, List, [], ◌∷◌, ◌++◌, length, take, drop, refl, sym, ap, ◌∙◌, subst, arith, length-append, append_assoc, is_none, nat_le, nat_lt}
use Rattle.std.proofs.lemmas.List.{take-append-le, drop-append-le}
use Rattle.std.specs.declared.option.Option.{Option}
use Rattle.std.specs.declared.option.Option.TheVariants.{None, Some}
use Rattle.af_limits.specs.Limits.{most_words, perform_limit}
use Rattle.af_wire.specs.declared.order.Order.{Order}
use Rattle.af_wire.specs.declared.order.Order.TheVariants.{Big}
use Rattle.af_wire.specs.declared.front.Front.{Front}
use Rattle.af_wire.specs.declared.front.Front.TheVariants.{NeedMore, Frame, Malformed}
use Rattle.af_wire.specs.declared.front.SetupFront.{SetupFront}
use Rattle.af_wire.specs.declared.front.SetupFront.TheVariants as front
use Rattle.af_wire.specs.Front.{setup_front, setup_with, frame_front, frame_with, IsFrameWithin, IsSetupWithin}
use Rattle.af_wire.specs.Order.{u16_of, u32_of}
use Rattle.af_request.specs.Asked.{Asked}
use Rattle.af_request.specs.Requests.{asked_in}
use Rattle.af_request.specs.Answer.{setup}
use Rattle.af_request.specs.Opcodes as opcodes
use Rattle.af_model.specs.State.{OpenLink, open_link, say}
use Rattle.af_model.specs.Waiting.{has_deferral}
use Rattle.af_model.specs.Reply.{infos_of, reply_message}
use Rattle.af_model.specs.Perform.{perform, count_request}
use Rattle.af_model.specs.Advance.{absorb, advance, advance_step, after_frame, after_front, after_setup, make_request, takes_more, without_front}
use Rattle.af_model.specs.Cutting.{CutsAlike}
use Rattle.af_model.proofs.AdvanceLemmas.{IsShorter, advance-none, advance-some, frame_within, perform_closing, setup_within, step_shorter}
use Rattle.af_model.proofs.DueLemmas.{most_asked}
use Rattle.af_model.proofs.RequestLemmas.{done_both, with_rest}

-- Fronts and more bytes: a decided front stays

abbrev pub Unchanged : Front → Front → Type 0
Unchanged NeedMore g = Unit {0}
Unchanged (Frame n) g = g ≡ Frame n
Unchanged Malformed g = g ≡ Malformed

front_stays : (words there more : ℕ) → Unchanged (frame_with words there) (frame_with words (there + more))
front_stays words there more =
    elim (words == 0 || nat_lt most_words words) as (λ t. Unchanged (cond t Malformed (cond (nat_lt there (4 * words)) NeedMore (Frame (4 * words)))) (cond t Malformed (cond (nat_lt (there + more) (4 * words)) NeedMore (Frame (4 * words))))) [
      | true ↦ refl
      | false ↦ grind arith
    ]

pub frame_stays : (order : Order) (xs ys : List ℕ) → Unchanged (frame_front order xs) (frame_front order (xs ++ ys))
frame_stays order [] ys = tt
frame_stays order (a ∷ []) ys = tt
frame_stays order (a ∷ b ∷ []) ys = tt
frame_stays order (a ∷ b ∷ c ∷ []) ys = tt
frame_stays order (a ∷ b ∷ c ∷ d ∷ xs) ys =
    let words = u16_of order (c ∷ d ∷ []) in
    let e : length (a ∷ b ∷ c ∷ d ∷ xs) + length ys ≡ length (a ∷ b ∷ c ∷ d ∷ (xs ++ ys)) = omega (arith, length-append xs ys) in
    subst (λ n. Unchanged (frame_with words (length (a ∷ b ∷ c ∷ d ∷ xs))) (frame_with words n)) e (front_stays words (length (a ∷ b ∷ c ∷ d ∷ xs)) (length ys))

abbrev pub UnchangedSetup : SetupFront → SetupFront → Type 0
UnchangedSetup front.NeedMore g = Unit {0}
UnchangedSetup (front.Setup order) g = g ≡ front.Setup order
UnchangedSetup (front.BadSetup order value) g = g ≡ front.BadSetup order value

same_setup : (f : SetupFront) → UnchangedSetup f f
same_setup front.NeedMore = tt
same_setup (front.Setup order) = refl
same_setup (front.BadSetup order value) = refl

pub setup_stays : (xs ys : List ℕ) → UnchangedSetup (setup_front xs) (setup_front (xs ++ ys))
setup_stays [] ys = tt
setup_stays (a ∷ []) ys = tt
setup_stays (a ∷ b ∷ []) ys = tt
setup_stays (a ∷ b ∷ c ∷ []) ys = tt
setup_stays (a ∷ b ∷ c ∷ d ∷ []) ys = tt
setup_stays (a ∷ b ∷ c ∷ d ∷ e ∷ []) ys = tt
setup_stays (a ∷ b ∷ c ∷ d ∷ e ∷ f ∷ []) ys = tt
setup_stays (a ∷ b ∷ c ∷ d ∷ e ∷ f ∷ g ∷ []) ys = tt
setup_stays (a ∷ b ∷ c ∷ d ∷ e ∷ f ∷ g ∷ h ∷ xs) ys = same_setup (setup_with (u32_of Big (a ∷ b ∷ c ∷ d ∷ [])) (e ∷ f ∷ []))

-- A step and more bytes

-- more bytes come
abbrev more_bytes : OpenLink → List ℕ → OpenLink
more_bytes p b = with_rest (p.link.rest ++ b) p

-- they come to a link that is not closing
abbrev then_bytes : OpenLink → List ℕ → OpenLink
then_bytes p b = cond (is_none p.link.closing) (more_bytes p b) p

open_bytes : (p : OpenLink) (b : List ℕ) → is_none p.link.closing ≡ true → then_bytes p b ≡ more_bytes p b
open_bytes p b e = ap (λ t. cond t (more_bytes p b) p) e

perform_more : (k : ℕ) (request : Asked) (p : OpenLink) (b : List ℕ) → is_none p.link.closing ≡ true → perform k request (more_bytes p b) ≡ then_bytes (perform k request p) b
perform_more k request p b e =
    let q = open_link p.environment (count_request p.link) in
    let both : perform k request (more_bytes p b) ≡ more_bytes (perform k request p) b =
    done_both k q (p.link.rest ++ b) (most_asked request) (λ (u v : OpenLink). v ≡ more_bytes u b) refl (λ contexts selections bytes short. refl) (λ d device f there l. refl) (λ d device f bytes short there l. refl) (λ d device deferred there w. refl) request (omega arith) in
    both ∙ sym (open_bytes (perform k request p) b (ap is_none (perform_closing k request p) ∙ e))

requested_more : (k : ℕ) (o : Option Asked) (p : OpenLink) (b : List ℕ) → is_none p.link.closing ≡ true → make_request k o (more_bytes p b) ≡ then_bytes (make_request k o p) b
requested_more k None p b e = refl
requested_more k (Some request) p b e = perform_more k request p b e

-- a step that is taken is taken also with more bytes
abbrev SameStep : List ℕ → Option OpenLink → Option OpenLink → Type 0
SameStep b None o = Unit {0}
SameStep b (Some q) o = o ≡ Some (then_bytes q b)

frame_more : (k : ℕ) (p : OpenLink) (b : List ℕ) (f g : Front) → is_none p.link.closing ≡ true → IsFrameWithin f (length p.link.rest) → Unchanged f g → SameStep b (after_frame k f p) (after_frame k g (more_bytes p b))
frame_more k p b NeedMore g e w s = tt
frame_more k p b Malformed g e w s = ap (λ x. after_frame k x (more_bytes p b)) s
frame_more k p b (Frame n) g e w s =
    let within : n ≤ length p.link.rest = w.1 in
    let t : take n (p.link.rest ++ b) ≡ take n p.link.rest = take-append-le n p.link.rest b within in
    let d : drop n (p.link.rest ++ b) ≡ drop n p.link.rest ++ b = drop-append-le n p.link.rest b within in
    ap (λ x. after_frame k x (more_bytes p b)) s
    ∙ ap (λ x. Some x) (ap (λ r. make_request k (asked_in p.link.order (take n (p.link.rest ++ b))) (with_rest r p)) d ∙ ap (λ x. make_request k (asked_in p.link.order x) (with_rest (drop n p.link.rest ++ b) p)) t
    ∙ requested_more k (asked_in p.link.order (take n p.link.rest)) (open_link p.environment (without_front n p.link)) b e)

setup_more : (p : OpenLink) (b : List ℕ) (f g : SetupFront) → is_none p.link.closing ≡ true → IsSetupWithin f (length p.link.rest) → UnchangedSetup f g → SameStep b (after_setup f p) (after_setup g (more_bytes p b))
setup_more p b front.NeedMore g e w s = tt
setup_more p b (front.BadSetup order value) g e w s = ap (λ x. after_setup x (more_bytes p b)) s
setup_more p b (front.Setup order) g e w s =
    let d : drop 8 (p.link.rest ++ b) ≡ drop 8 p.link.rest ++ b = drop-append-le 8 p.link.rest b w in
    let set_up : List ℕ → OpenLink = λ rest. say (open_link p.environment (record p.link { is_set_up = true; order = order; rest = rest })) (reply_message order opcodes.setup (setup (infos_of p.environment.devices)) 0) in
    ap (λ x. after_setup x (more_bytes p b)) s ∙ ap (λ x. Some x) (ap set_up d ∙ sym (open_bytes (set_up (drop 8 p.link.rest)) b e))

front_more : (t : Bool) (k : ℕ) (p : OpenLink) (b : List ℕ) → is_none p.link.closing ≡ true →
    SameStep b (cond t (after_frame k (frame_front p.link.order p.link.rest) p) (after_setup (setup_front p.link.rest) p)) (cond t (after_frame k (frame_front p.link.order (p.link.rest ++ b)) (more_bytes p b)) (after_setup (setup_front (p.link.rest ++ b)) (more_bytes p b)))
front_more true k p b e = frame_more k p b (frame_front p.link.order p.link.rest) (frame_front p.link.order (p.link.rest ++ b)) e (frame_within p.link.order p.link.rest) (frame_stays p.link.order p.link.rest b)
front_more false k p b e = setup_more p b (setup_front p.link.rest) (setup_front (p.link.rest ++ b)) e (setup_within p.link.rest) (setup_stays p.link.rest b)

step_more : (k : ℕ) (p : OpenLink) (b : List ℕ) → is_none p.link.closing ≡ true → SameStep b (advance_step k p) (advance_step k (more_bytes p b))
step_more k p b e =
    elim (takes_more (has_deferral p.environment.waiting k) p.link) as (λ t. SameStep b (cond t (after_front k p) None) (cond t (after_front k (more_bytes p b)) None)) [ true ↦ front_more p.link.is_set_up k p b e | false ↦ tt ]

-- Cutting

closed_step : (k : ℕ) (p : OpenLink) → is_none p.link.closing ≡ false → advance_step k p ≡ None
closed_step k p e =
    elim (has_deferral p.environment.waiting k) as (λ w. cond (takes_more w p.link) (after_front k p) None ≡ None) [ true ↦ refl | false ↦ ap (λ c. cond (c && nat_le (length p.link.pending) perform_limit) (after_front k p) None) e ]

cut_none : (k : ℕ) (p : OpenLink) (b : List ℕ) → is_none p.link.closing ≡ true → advance_step k p ≡ None → absorb k b (advance k p) ≡ advance k (more_bytes p b)
cut_none k p b e s = ap (absorb k b) (advance-none k p s) ∙ ap (λ t. cond t (advance k (more_bytes p b)) p) e

cut_some : (k : ℕ) (p q : OpenLink) (b : List ℕ) → advance_step k p ≡ Some q → advance_step k (more_bytes p b) ≡ Some (then_bytes q b) →
    (is_none q.link.closing ≡ true → absorb k b (advance k q) ≡ advance k (more_bytes q b)) → absorb k b (advance k p) ≡ advance k (more_bytes p b)
cut_some k p q b s m next =
    let ends : absorb k b (advance k q) ≡ advance k (then_bytes q b) =
    elim (is_none q.link.closing) as (λ t. is_none q.link.closing ≡ t → absorb k b (advance k q) ≡ advance k (cond t (more_bytes q b) q)) [
      | true ↦ λ t. next t
      | false ↦ λ t. ap (absorb k b) (advance-none k q (closed_step k q t)) ∙ ap (λ c. cond c (advance k (more_bytes q b)) q) t ∙ sym (advance-none k q (closed_step k q t))
    ] refl in
    ap (absorb k b) (advance-some k p q s) ∙ ends ∙ sym (advance-some k (more_bytes p b) (then_bytes q b) m)

-- n bounds the bytes that are there
cut_by : (n k : ℕ) (p : OpenLink) (b : List ℕ) → length p.link.rest ≤ n → is_none p.link.closing ≡ true → absorb k b (advance k p) ≡ advance k (more_bytes p b)
cut_by zero k p b h e =
    elim (advance_step k p) as (λ o. advance_step k p ≡ o → IsShorter (length p.link.rest) o → SameStep b o (advance_step k (more_bytes p b)) → absorb k b (advance k p) ≡ advance k (more_bytes p b)) [
      | None ↦ λ s l m. cut_none k p b e s
      | Some q ↦ λ s l m. absurd (omega (arith, l, h))
    ] refl (step_shorter k p) (step_more k p b e)
cut_by (suc n) k p b h e =
    elim (advance_step k p) as (λ o. advance_step k p ≡ o → IsShorter (length p.link.rest) o → SameStep b o (advance_step k (more_bytes p b)) → absorb k b (advance k p) ≡ advance k (more_bytes p b)) [
      | None ↦ λ s l m. cut_none k p b e s
      | Some q ↦ λ s l m. cut_some k p q b s m (λ t. cut_by n k q b (omega (arith, l, h)) t)
    ] refl (step_shorter k p) (step_more k p b e)

pub cutting : (k : ℕ) (p : OpenLink) → CutsAlike k p
cutting k p a b =
    elim (is_none p.link.closing) as (λ t. is_none p.link.closing ≡ t → absorb k b (cond t (advance k (more_bytes p a)) p) ≡ cond t (advance k (more_bytes p (a ++ b))) p) [
      | true ↦ λ t. cut_by (length (p.link.rest ++ a)) k (more_bytes p a) b (omega arith) t ∙ ap (λ r. advance k (with_rest r p)) (append_assoc p.link.rest a b)
      | false ↦ λ t. ap (λ c. cond c (advance k (more_bytes p b)) p) t
    ] refl
