-- In Big the wire is what it was before a client chose its byte order: the same facts, in the records of either.
use Rattle.std.proofs.Common.{◌↔◌, inl, inr, ℕ, List, refl, subst, rules}
use Rattle.af_wire.specs.declared.order.Order.TheVariants.{Big, Little}
use Rattle.af_wire.specs.declared.front.Front.{Front}
use Rattle.af_wire.specs.declared.front.Front.TheVariants as frame
use Rattle.af_wire.specs.declared.message_front.MessageFront.{MessageFront}
use Rattle.af_wire.specs.declared.message_front.MessageFront.TheVariants as message
use Rattle.af_wire.specs.Order.{magic}
use Rattle.af_wire.specs.Begins.{StatesSetup, HasSetupFront, StatesFrame, IsFrame, HasFront, StatesHead, IsMessage, NeedsMoreOfMessage, HasBadHead, HasMessageFront}
use Rattle.af_wire.specs.big as big

-- setups

same_setup : (name major : ℕ) (bytes : List ℕ) → big.StatesSetup name major bytes ↔ StatesSetup Big name major bytes
same_setup name major bytes = (λ s. search rules, λ s. search rules)

pub same_setups : (bytes : List ℕ) (front : big.Setup) → ((major : ℕ) → StatesSetup Big (magic Little) major bytes → ⊥) →
    big.HasSetupFront bytes front ↔ HasSetupFront bytes (big.front_now front)
unfolding HasSetupFront big.HasSetupFront
same_setups bytes big.need_more other = (λ h. h, λ h. h)
same_setups bytes big.good other = same_setup big.magic 1 bytes
same_setups bytes (big.bad value) other = (now, was)
  where
    states : (name major : ℕ) → big.StatesSetup name major bytes → StatesSetup Big name major bytes
    states name major = (same_setup name major bytes).0

    now : big.HasBadSetup value bytes → HasSetupFront bytes (big.front_now (big.bad value))
    now (inl h) = inl (h.0, states value h.0 h.1, refl, h.2, λ e. other h.0 (subst (λ n. StatesSetup Big n h.0 bytes) e (states value h.0 h.1)))
    now (inr h) = inr (states big.magic value h.0, h.1)

    was : HasSetupFront bytes (big.front_now (big.bad value)) → big.HasBadSetup value bytes
    was (inl h) = inl (h.0, (same_setup value h.0 bytes).1 h.1, h.3)
    was (inr h) = inr ((same_setup big.magic value bytes).1 h.0, h.1)

-- frames

same_frame : (words : ℕ) (bytes : List ℕ) → big.StatesFrame words bytes ↔ StatesFrame Big words bytes
same_frame words bytes = (λ s. search rules, λ s. search rules)

same_whole : (bytes : List ℕ) → big.IsFrame bytes ↔ IsFrame Big bytes
same_whole bytes = (λ f. search rules, λ f. search rules)

pub same_frames : (bytes : List ℕ) (front : Front) → big.HasFront bytes front ↔ HasFront Big bytes front
unfolding HasFront big.HasFront
same_frames bytes frame.NeedMore = (
  λ h. elim h [ inl short ↦ inl short | inr h' ↦ inr (h'.0, (same_frame h'.0 bytes).0 h'.1, h'.2, h'.3) ],
  λ h. elim h [ inl short ↦ inl short | inr h' ↦ inr (h'.0, (same_frame h'.0 bytes).1 h'.1, h'.2, h'.3) ],
)
same_frames bytes (frame.Frame n) = (λ h. (h.0, h.1, (same_whole h.0).0 h.2, h.3), λ h. (h.0, h.1, (same_whole h.0).1 h.2, h.3))
same_frames bytes frame.Malformed = (λ h. (h.0, (same_frame h.0 bytes).0 h.1, h.2), λ h. (h.0, (same_frame h.0 bytes).1 h.1, h.2))

-- messages

same_head : (kind detail sequence words : ℕ) (bytes : List ℕ) → big.StatesHead kind detail sequence words bytes ↔ StatesHead Big kind detail sequence words bytes
same_head kind detail sequence words bytes = (λ s. search rules, λ s. search rules)

same_need : (n : ℕ) (bytes : List ℕ) → big.NeedsMoreOfMessage n bytes ↔ NeedsMoreOfMessage Big n bytes
same_need n bytes = (
  λ h. let s = (same_head h.kind h.detail h.sequence h.words bytes).0 h.states in search rules,
  λ h. let s = (same_head h.kind h.detail h.sequence h.words bytes).1 h.states in search rules,
)

same_message : (kind detail sequence : ℕ) (bytes : List ℕ) → big.IsMessage kind detail sequence bytes ↔ IsMessage Big kind detail sequence bytes
same_message kind detail sequence bytes = (λ m. search rules, λ m. search rules)

same_bad : (bytes : List ℕ) → big.HasBadHead bytes ↔ HasBadHead Big bytes
same_bad bytes = (
  λ h. let s = (same_head h.kind h.detail h.sequence h.words bytes).0 h.states in search rules,
  λ h. let s = (same_head h.kind h.detail h.sequence h.words bytes).1 h.states in search rules,
)

pub same_messages : (bytes : List ℕ) (front : MessageFront) → big.HasMessageFront bytes front ↔ HasMessageFront Big bytes front
unfolding HasMessageFront big.HasMessageFront
same_messages bytes (message.NeedMore n) = (
  λ h. elim h [ inl short ↦ inl short | inr more ↦ inr ((same_need n bytes).0 more) ],
  λ h. elim h [ inl short ↦ inl short | inr more ↦ inr ((same_need n bytes).1 more) ],
)
same_messages bytes (message.Message kind detail sequence n) =
    (λ h. (h.0, h.1, (same_message kind detail sequence h.0).0 h.2, h.3), λ h. (h.0, h.1, (same_message kind detail sequence h.0).1 h.2, h.3))
same_messages bytes message.BadMessage = same_bad bytes
