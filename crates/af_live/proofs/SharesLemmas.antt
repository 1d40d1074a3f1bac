-- Links that are given new shares, one after another, and what of a link that leaves alone.
use Rattle.std.proofs.Common.{◌≡◌, ℕ, zero, suc, ◌+◌, ◌||◌, Bool, false, List, [], ◌∷◌, slice_set, refl, sym, ap, subst, ◌∙◌, arith}
use Rattle.std.specs.Prelude.{option_map}
use Rattle.std.specs.declared.option.Option.{Option}
use Rattle.std.specs.declared.option.Option.TheVariants.{None, Some}
use Rattle.af_live.specs.declared.link_table.LinkEntry.{LinkEntry}
use Rattle.af_live.specs.LinkTable.{is_free, is_open, link_at}
use Rattle.af_live.specs.Shares.{cut_from, is_cut, renewed_from, with_new_share, NoneHeldFrom}

-- no link is held after the first either
next_free : (n : ℕ) (link : Option LinkEntry) (links : List (Option LinkEntry)) → NoneHeldFrom (suc n) (link ∷ links) → NoneHeldFrom n links
next_free n link links h k low = h (suc k) (omega (arith, low))

all_free : (link : Option LinkEntry) (links : List (Option LinkEntry)) → NoneHeldFrom 0 (link ∷ links) → NoneHeldFrom 0 links
all_free link links h k low = h (suc k) (omega arith)

next : (n : ℕ) → suc n ≡ n + 1
next n = omega arith

cut_at : (n : ℕ) (links : List (Option LinkEntry)) → cut_from n links ≡ is_cut (link_at links n) || cut_from (suc n) links
cut_at zero [] = refl
cut_at (suc n) [] = refl
cut_at zero (link ∷ links) = refl
cut_at (suc n) (link ∷ links) = cut_at n links

-- the link at a number is looked at, and then those after it
pub cut_here : (n : ℕ) (links : List (Option LinkEntry)) → cut_from n links ≡ is_cut (link_at links n) || cut_from (n + 1) links
cut_here n links = subst (λ m. cut_from n links ≡ is_cut (link_at links n) || cut_from m links) (next n) (cut_at n links)

pub none_cut : (n : ℕ) (links : List (Option LinkEntry)) → NoneHeldFrom n links → cut_from n links ≡ false
none_cut zero [] h = refl
none_cut (suc n) [] h = refl
none_cut zero (link ∷ links) h = ap (λ x. is_cut x || cut_from 0 links) (h 0 (omega arith)) ∙ none_cut zero links (all_free link links h)
none_cut (suc n) (link ∷ links) h = none_cut n links (next_free n link links h)

renew_at : (n : ℕ) (links : List (Option LinkEntry)) →
    renewed_from n links ≡ renewed_from (suc n) (slice_set links n (option_map with_new_share (link_at links n)))
renew_at zero [] = refl
renew_at (suc n) [] = refl
renew_at zero (link ∷ links) = refl
renew_at (suc n) (link ∷ links) = ap (λ ls. link ∷ ls) (renew_at n links)

-- the link at a number has a new share, and then those after it
pub renew_here : (n : ℕ) (links : List (Option LinkEntry)) →
    renewed_from n links ≡ renewed_from (n + 1) (slice_set links n (option_map with_new_share (link_at links n)))
renew_here n links = subst (λ m. renewed_from n links ≡ renewed_from m (slice_set links n (option_map with_new_share (link_at links n)))) (next n) (renew_at n links)

pub none_renewed : (n : ℕ) (links : List (Option LinkEntry)) → NoneHeldFrom n links → renewed_from n links ≡ links
none_renewed zero [] h = refl
none_renewed (suc n) [] h = refl
none_renewed zero (link ∷ links) h =
    subst (λ x. option_map with_new_share x ∷ renewed_from 0 links ≡ x ∷ links) (sym (h 0 (omega arith)))
    (ap (λ ls. None ∷ ls) (none_renewed zero links (all_free link links h)))
none_renewed (suc n) (link ∷ links) h = ap (λ ls. link ∷ ls) (none_renewed n links (next_free n link links h))

pub renewed_same : {A : Type 0} (f : Option LinkEntry → A) → ((link : Option LinkEntry) → f (option_map with_new_share link) ≡ f link) →
    (n : ℕ) (links : List (Option LinkEntry)) (k : ℕ) → f (link_at (renewed_from n links) k) ≡ f (link_at links k)
renewed_same f stays zero [] k = refl
renewed_same f stays (suc n) [] k = refl
renewed_same f stays zero (link ∷ links) zero = stays link
renewed_same f stays zero (link ∷ links) (suc k) = renewed_same f stays zero links k
renewed_same f stays (suc n) (link ∷ links) zero = refl
renewed_same f stays (suc n) (link ∷ links) (suc k) = renewed_same f stays n links k

renewed_open : (link : Option LinkEntry) → is_open (option_map with_new_share link) ≡ is_open link
renewed_open None = refl
renewed_open (Some link) = refl

renewed_free : (link : Option LinkEntry) → is_free (option_map with_new_share link) ≡ is_free link
renewed_free None = refl
renewed_free (Some link) = refl

pub all_renewed_open : (links : List (Option LinkEntry)) (k : ℕ) → is_open (link_at (renewed_from 0 links) k) ≡ is_open (link_at links k)
all_renewed_open = renewed_same is_open renewed_open 0

pub all_renewed_free : (links : List (Option LinkEntry)) (k : ℕ) → is_free (link_at (renewed_from 0 links) k) ≡ is_free (link_at links k)
all_renewed_free = renewed_same is_free renewed_free 0
