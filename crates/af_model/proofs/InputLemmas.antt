-- What was taken off the front of a link's input stays so if more comes, and goes on as requests are taken off.
use Rattle.std.proofs.Common.{◌≡◌, ℕ, ◌≤◌, Bool, true, false, List, [], ◌∷◌, ◌++◌, length, take, drop, is_some, sym, ap, subst}
use Rattle.std.proofs.lemmas.List.{take-append-le, drop-append-le}
use Rattle.af_wire.specs.declared.order.Order.{Order}
use Rattle.af_wire.specs.declared.front.Front.TheVariants.{Frame}
use Rattle.af_wire.specs.declared.front.SetupFront.TheVariants as front
use Rattle.af_wire.specs.Front.{setup_front, frame_front, IsFrameWithin, IsSetupWithin}
use Rattle.af_request.specs.Requests.{asked_in}
use Rattle.af_world.specs.declared.happening.Why.{Why}
use Rattle.af_world.specs.declared.happening.Why.TheVariants as why
use Rattle.af_model.specs.State.{LinkState}
use Rattle.af_model.specs.Causes.{AreRequests, IsServedTo, is_malformed}
use Rattle.af_model.proofs.AdvanceLemmas.{frame_within, setup_within}
use Rattle.af_model.proofs.CuttingLawLemmas.{Unchanged, UnchangedSetup, frame_stays, setup_stays}

-- The rest of the bytes that a link gave is unread: all of them until it is set up, and then those after its setup and its
-- requests in that byte order.
abbrev pub IsInput : Bool → Order → List ℕ → List ℕ → Type 0
IsInput false order gave rest = rest ≡ gave
IsInput true order gave rest = IsServedTo order gave rest

-- what is at the front of a link's input, and closes it
abbrev pub IsBadInput : Why → LinkState → Type 0
IsBadInput why.BadSetup l = (l.is_set_up ≡ false) × (order : Order) × (value : ℕ) × (setup_front l.rest ≡ front.BadSetup order value)
IsBadInput why.Malformed l = (l.is_set_up ≡ true) × (is_malformed l.order (frame_front l.order l.rest) l.rest ≡ true)
IsBadInput _ l = ⊥

-- More comes

frame_same : (order : Order) (xs ys : List ℕ) (n : ℕ) → frame_front order xs ≡ Frame n → frame_front order (xs ++ ys) ≡ Frame n
frame_same order xs ys n e = subst (λ f. Unchanged f (frame_front order (xs ++ ys))) e (frame_stays order xs ys)

frame_size : (order : Order) (xs : List ℕ) (n : ℕ) → frame_front order xs ≡ Frame n → n ≤ length xs
frame_size order xs n e = (subst (λ f. IsFrameWithin f (length xs)) e (frame_within order xs)).1

requests_more : (order : Order) (sizes xs rest ys : List ℕ) → AreRequests order sizes xs rest → AreRequests order sizes (xs ++ ys) (rest ++ ys)
requests_more order [] xs rest ys h = ap (λ l. l ++ ys) h
requests_more order (n ∷ sizes) xs rest ys h =
    let within = frame_size order xs n h.0 in (
      frame_same order xs ys n h.0,
      subst (λ l. is_some (asked_in order l) ≡ true) (sym (take-append-le n xs ys within)) h.1,
      subst (λ l. AreRequests order sizes l (rest ++ ys)) (sym (drop-append-le n xs ys within)) (requests_more order sizes (drop n xs) rest ys h.2),
    )

served_more : (order : Order) (gave rest ys : List ℕ) → IsServedTo order gave rest → IsServedTo order (gave ++ ys) (rest ++ ys)
served_more order gave rest ys h =
    let within : 8 ≤ length gave = subst (λ f. IsSetupWithin f (length gave)) h.setup (setup_within gave) in
    record {
      setup = subst (λ f. UnchangedSetup f (setup_front (gave ++ ys))) h.setup (setup_stays gave ys);
      sizes = h.sizes;
      requests = subst (λ l. AreRequests order h.sizes l (rest ++ ys)) (sym (drop-append-le 8 gave ys within)) (requests_more order h.sizes (drop 8 gave) rest ys h.requests);
    }

pub input_more : (is_set_up : Bool) (order : Order) (gave rest ys : List ℕ) → IsInput is_set_up order gave rest → IsInput is_set_up order (gave ++ ys) (rest ++ ys)
input_more false order gave rest ys h = ap (λ l. l ++ ys) h
input_more true order gave rest ys h = served_more order gave rest ys h

-- A setup, and then requests, are taken off

pub input_set_up : (order : Order) (gave rest : List ℕ) → setup_front rest ≡ front.Setup order → rest ≡ gave → IsServedTo order gave (drop 8 rest)
input_set_up order gave rest e same = record { setup = subst (λ l. setup_front l ≡ front.Setup order) same e; sizes = []; requests = ap (λ l. drop 8 l) same }

requests_then : (order : Order) (sizes xs rest : List ℕ) (n : ℕ) → AreRequests order sizes xs rest → frame_front order rest ≡ Frame n → is_some (asked_in order (take n rest)) ≡ true →
    AreRequests order (sizes ++ n ∷ []) xs (drop n rest)
requests_then order [] xs rest n h e asked = (subst (λ l. frame_front order l ≡ Frame n) h e, subst (λ l. is_some (asked_in order (take n l)) ≡ true) h asked, ap (λ l. drop n l) h)
requests_then order (m ∷ sizes) xs rest n h e asked = (h.0, h.1, requests_then order sizes (drop m xs) rest n h.2 e asked)

pub input_taken : (order : Order) (gave rest : List ℕ) (n : ℕ) → frame_front order rest ≡ Frame n → is_some (asked_in order (take n rest)) ≡ true → IsServedTo order gave rest → IsServedTo order gave (drop n rest)
input_taken order gave rest n e asked h = record { setup = h.setup; sizes = h.sizes ++ n ∷ []; requests = requests_then order h.sizes (drop 8 gave) rest n h.requests e asked }
