-- How much of a source was given, how much of a sound is left, and what aplay made of its source.
use Rattle.std.proofs.Common.{arith, inl, inr, ◌⊎◌, ◌≡◌, ◌≤◌, ◌<◌, ◌+◌, ◌-◌, ◌/◌, ◌*◌, ℕ, List, [], ◌++◌, length, take, refl, sym, ap, ◌∙◌, subst, IsErrOf, Bool, length-append, length-take-le, true, Result, Ok, Err, Option, None, Some}
use Rattle.std.proofs.Math.Nat.{div-lt_iff_lt-mul, div-mul-le_self}
use Rattle.af_io.specs.Observed.{Consumed, CountsFault, FaultCounted}
use Rattle.af_toolkit.specs.declared.end.ToolEnd.{ToolEnd}
use Rattle.af_toolkit.specs.declared.end.ToolEnd.TheVariants as end
use Rattle.af_tools.specs.declared.fill.FillFault.{FillFault}
use Rattle.af_tools.specs.declared.fill.FillFault.TheVariants as fill
use Rattle.af_sound.specs.declared.head.SoundForm.{SoundForm}
use Rattle.af_io.specs.Flow.{ConsumedTooMuch, ConsumedWithin, IsSpent}
use Rattle.af_tools.specs.Sounds.{most_bytes, stated_after, FitsStated}
use Rattle.af_tools.specs.Reading.{fill_end, left_before, ConsumedHead, ConsumedSound, FillsBlock, HeadIs, IsFirstBlock, TakesSound, UsesSource, is_of_sound, EndShows, is_of_blocks, is_of_played}
use Rattle.af_io.proofs.ConsumedLemmas.{consumed_none, consumed_on}
use Rattle.af_tools.proofs.EndLemmas.{err_of, of_err, never, not_all}
use Rattle.af_tools.proofs.PlayBlockLemmas.{ConsumedAll}
use Rattle.af_toolkit.specs.Ends.{is_of_link}

-- what was given so far, and a block more
pub given_on : {room allowed n given : ℕ} {len : Option ℕ} {block : List ℕ} {a b c : Option (List ℕ)} → ConsumedAll given a b → IsFirstBlock room allowed len n block b c → n ≤ length block → ConsumedAll (given + n) a c
given_on {n} {block} {a} {b} {c} so_far more fits = record {
  bytes = so_far.bytes ++ take n block;
  consumed = consumed_on a b c so_far.bytes (take n block) so_far.consumed more.consumed;
  all = (let all = so_far.all in let len = length-take-le n block fits in omega (arith, length-append so_far.bytes (take n block)));
}

-- a block that was read is a part of what the source had left before it
pub read_before : (block : List ℕ) (after : Option (List ℕ)) → Consumed (left_before block after) block after
read_before block None = tt
read_before block (Some rest) = refl

-- what a source gave, with a block that was read first
pub consumed_first : (a b c : Option (List ℕ)) (block all : List ℕ) → Consumed a block b → Consumed (left_before block b) all c → Consumed a all c
consumed_first a b None block all h k = tt
consumed_first a None (Some z) block all h k = absurd k
consumed_first None (Some y) (Some z) block all h k = absurd h
consumed_first (Some x) (Some y) (Some z) block all h k = h ∙ k

module _ {X : Type 0} {len : Option ℕ} {most : ℕ} where
  -- the first block of a sound was read, and then the others
  pub takes_first : {room allowed n : ℕ} {of : Option ℕ} {block : List ℕ} {r : Result X ToolEnd} {a b c : Option (List ℕ)} → IsFirstBlock room allowed of n block a b → TakesSound len most r (left_before (take n block) b) c → TakesSound len most r a c
  takes_first {n} {block} {a} {b} {c} h t = record { bytes = t.bytes; consumed = consumed_first a b c (take n block) t.bytes h.consumed t.consumed; spent = t.spent; long = t.long; within = t.within }

  -- a part that is done, or ends for another cause than the size of the source
  takes_all : {x : X} {n : ℕ} {a b : Option (List ℕ)} → ConsumedAll n a b → n ≤ most → IsSpent b ⊎ (len ≡ Some n) → TakesSound len most (Ok x) a b
  takes_all {n} {b} given few spent = record {
    bytes = given.bytes;
    consumed = given.consumed;
    spent = subst (λ (k : ℕ). IsSpent b ⊎ (len ≡ Some k)) (sym given.all) spent;
    long = λ bad. cc bad;
    within = λ _. subst (λ (k : ℕ). k ≤ most) (sym given.all) few;
  }

  pub takes_some : {how : ToolEnd} {result : Result X ToolEnd} {a b : Option (List ℕ)} → result ≡ Err how → ConsumedWithin most a b → (how ≡ end.TooLong → ⊥) → TakesSound len most result a b
  takes_some same given other = rw same (record { bytes = given.text; consumed = given.consumed; spent = tt; long = λ bad. absurd (other (cc bad)); within = λ _. given.within })

  pub takes_link : {how : ToolEnd} {result : Result X ToolEnd} {a b : Option (List ℕ)} → result ≡ Err how → ConsumedWithin most a b → is_of_link how ≡ true → TakesSound len most result a b
  takes_link {how} same given is = takes_some same given (never is_of_link how end.TooLong is refl)

  -- one that ends as reading a block does, after so many bytes
  pub takes_fault : {n room allowed : ℕ} {left : Option ℕ} {bytes : List ℕ} {result : Result X ToolEnd} {a b c : Option (List ℕ)} (fault : FillFault) → result ≡ Err (fill_end fault) → ConsumedAll n a b → FillsBlock room allowed left (Err fault) bytes b c → n + allowed ≡ most → TakesSound len most result a c
  takes_fault {a} {b} {c} fill.ReadFault same given block limit =
      let more = block.cut refl in
      let all = given.all in
      let within = more.within in
      takes_some same (record { text = given.bytes ++ more.text; consumed = consumed_on a b c given.bytes more.text given.consumed more.consumed; within = omega (arith, length-append given.bytes more.text) }) (λ e. cc e)
  takes_fault {a} {b} {c} fill.TooLong same given block limit =
      let more = block.long refl in
      let all = given.all in
      let beyond = more.beyond in
      rw same (record {
        bytes = given.bytes ++ more.bytes;
        consumed = consumed_on a b c given.bytes more.bytes given.consumed more.consumed;
        spent = tt;
        long = λ _. omega (arith, length-append given.bytes more.bytes);
        within = λ other. absurd (other refl);
      })

  -- the same end, or another value
  pub takes_end : {Y : Type 0} {how : ToolEnd} {result : Result X ToolEnd} {a b : Option (List ℕ)} → result ≡ Err how → TakesSound {X = Y} len most (Err how) a b → TakesSound len most result a b
  takes_end {Y} {how} same t = rw same (record { bytes = t.bytes; consumed = t.consumed; spent = tt; long = λ bad. t.long (err_of how end.TooLong (of_err how end.TooLong bad)); within = λ other. t.within (λ bad. other (err_of how end.TooLong (of_err how end.TooLong bad))) })

  pub takes_value : {Y : Type 0} {y : Y} {x : X} {a b : Option (List ℕ)} → TakesSound len most (Ok y) a b → TakesSound len most (Ok x) a b
  takes_value t = record { bytes = t.bytes; consumed = t.consumed; spent = t.spent; long = λ bad. cc bad; within = λ _. t.within (λ bad. cc bad) }

  pub takes_within : {x : X} {a b : Option (List ℕ)} → TakesSound len most (Ok x) a b → ConsumedWithin most a b
  takes_within t = record { text = t.bytes; consumed = t.consumed; within = t.within (λ bad. cc bad) }

-- nothing is left of a source that is spent
pub spent_none : (left : Option (List ℕ)) (rest : List ℕ) → left ≡ Some rest → IsSpent left → rest ≡ []
spent_none None rest is spent = cc is
spent_none (Some x) rest is spent = let same : x ≡ rest = cc in sym same ∙ spent

pub given_none : (a : Option (List ℕ)) → ConsumedAll 0 a a
given_none a = record { bytes = []; consumed = consumed_none a; all = refl }

pub given_within : {most n : ℕ} {a b : Option (List ℕ)} → ConsumedAll n a b → n ≤ most → ConsumedWithin most a b
given_within all within = record { text = all.bytes; consumed = all.consumed; within = (let count = all.all in omega arith) }

-- fewer bytes than a frame has
pub short_of : (n width : ℕ) → 0 < width → n / width ≡ 0 → n < width
short_of n width some none = let h : n < 1 * width = (div-lt_iff_lt-mul {k = width} {x = n} {y = 1} some).0 (omega arith) in omega arith

pub whole_of : (n width : ℕ) → n / width * width ≤ n
whole_of n width = div-mul-le_self n width

-- how much is stated, and what is left of that
pub fits_begin : (of : Option ℕ) → FitsStated of 0
fits_begin None = tt
fits_begin (Some n) = omega arith

pub rest_begin : (of : Option ℕ) → of ≡ stated_after of 0
rest_begin None = refl
rest_begin (Some n) = ap (λ (k : ℕ). Some k) (let same : n ≡ n - 0 = omega arith in same)

-- one more block fits what is stated, if it fits what is left of that
pub fits_on : (of left : Option ℕ) (given n : ℕ) → left ≡ stated_after of given → FitsStated of given → FitsStated left n → FitsStated of (given + n)
fits_on None left given n is fits more = tt
fits_on (Some m) None given n is fits more = cc is
fits_on (Some m) (Some k) given n is fits more =
    let same : k ≡ m - given = cc in
    omega arith

pub rest_on : (of left after : Option ℕ) (given n : ℕ) → left ≡ stated_after of given → after ≡ stated_after left n → after ≡ stated_after of (given + n)
rest_on of left after given n is then = then ∙ ap (λ (l : Option ℕ). stated_after l n) is ∙ twice of where
  twice : (of : Option ℕ) → stated_after (stated_after of given) n ≡ stated_after of (given + n)
  twice None = refl
  twice (Some m) = ap (λ (k : ℕ). Some k) (let same : m - given - n ≡ m - (given + n) = omega arith in same)

-- all that was stated was given
pub stated_all : (of left : Option ℕ) (given : ℕ) {n : ℕ} (c : Option (List ℕ)) → left ≡ stated_after of given → FitsStated of given → IsSpent c ⊎ (left ≡ Some n) → IsSpent c ⊎ (of ≡ Some (given + n))
stated_all of left given c is fits (inl spent) = inl spent
stated_all None left given {n} c is fits (inr all) = absurd (let bad : (let o : Option ℕ = None in o) ≡ Some n = sym is ∙ all in cc)
stated_all (Some m) left given {n} c is fits (inr all) =
    let same : Some (m - given) ≡ Some n = sym is ∙ all in
    let count : m - given ≡ n = cc in
    inr (ap (λ (k : ℕ). Some k) (let whole : m ≡ given + n = omega arith in whole))

pub takes_ended : {X : Type 0} {x : X} {len left : Option ℕ} {most : ℕ} (given n : ℕ) {a b : Option (List ℕ)} → ConsumedAll (given + n) a b → given + n ≤ most → left ≡ stated_after len given → FitsStated len given → IsSpent b ⊎ (left ≡ Some n) → TakesSound len most (Ok x) a b
takes_ended {len = len} {left = left} given n {b = b} all few is fits spent = takes_all all few (stated_all len left given b is fits spent)

-- what was read of a source with the bytes before its sound
module _ {form : Option SoundForm} {n : ℕ} {len : Option ℕ} {X : Type 0} {r : Result X ToolEnd} {a b c : Option (List ℕ)} (h : ConsumedHead form n len a b) (t : TakesSound len (most_bytes - n) r b c) where
  pub head_within : (IsErrOf r end.TooLong → ⊥) → ConsumedWithin most_bytes a c
  head_within other = record {
    text = h.bytes ++ t.bytes;
    consumed = consumed_on a b c h.bytes t.bytes h.consumed t.consumed;
    within = (let all = h.all in let few = t.within other in let most = h.within in omega (arith, length-append h.bytes t.bytes));
  }

  pub head_beyond : IsErrOf r end.TooLong → ConsumedTooMuch most_bytes a c
  head_beyond bad = record {
    text = h.bytes ++ t.bytes;
    consumed = consumed_on a b c h.bytes t.bytes h.consumed t.consumed;
    beyond = (let all = h.all in let many = t.long bad in let most = h.within in omega (arith, length-append h.bytes t.bytes));
  }

pub sound_spent : {form : Option SoundForm} {n most : ℕ} {len : Option ℕ} {X : Type 0} {x : X} {a b c : Option (List ℕ)} → ConsumedHead form n len a b → TakesSound len most (Ok x) b c → IsSpent c ⊎ ConsumedSound form a c
sound_spent {form} {a} {b} {c} h t = elim (t.spent) [
  | inl spent ↦ inl spent
  | inr all ↦ inr (record {
    front = h.bytes;
    sound = t.bytes;
    consumed = consumed_on a b c h.bytes t.bytes h.consumed t.consumed;
    is_head = subst (λ (l : Option ℕ). HeadIs form h.bytes l) all h.is_head;
  })
]

counted_before : (k m : ℕ) → k ≤ m → (p : ℕ) → FaultCounted m p → FaultCounted k p
counted_before k m below p counted = omega arith

module _ {S X : Type 0} (left : S → Option (List ℕ)) (faults : S → ℕ) {form : Option SoundForm} (how : ToolEnd) {source middle source' : S} {n : ℕ} {len : Option ℕ} (h : ConsumedHead form n len (left source) (left middle)) (count : faults source ≤ faults middle) where
  -- the sound was played, and that was written or not
  pub played_use : (strict : Bool) {x : X} → TakesSound len (most_bytes - n) (Ok x) (left middle) (left source') → faults middle ≤ faults source' → is_of_played strict how ≡ true → UsesSource left faults true form how source source'
  played_use strict t counts is = record {
    untouched = λ e. cc e;
    memory = λ same. absurd (never (is_of_played strict) how end.OutOfMemory is refl same);
    unfound = λ n same. absurd (never (is_of_played strict) how (end.NoDevice n) is refl same);
    spent = λ _ _. sound_spent h t;
    shows = record {
      long = λ same. absurd (never (is_of_played strict) how end.TooLong is refl same);
      within = λ _. head_within h t (λ bad. cc bad);
      bad = λ f same. absurd (never (is_of_played strict) how (end.BadSound f) is refl same);
      cut = λ same. absurd (never (is_of_played strict) how end.SoundCut is refl same);
    };
    failed = (omega arith, λ same. absurd (never (is_of_played strict) how end.ReadFault is refl same));
  }

  -- the tool ended within the sound
  pub refused_use : TakesSound {X = X} len (most_bytes - n) (Err how) (left middle) (left source') → CountsFault (IsErrOf {T = X} (Err how) end.ReadFault) (faults middle) (faults source') → is_of_blocks how ≡ true → UsesSource left faults true form how source source'
  refused_use t counts is =
      let later = counts.0 in
      record {
        untouched = λ e. cc e;
        memory = λ same. absurd (never is_of_blocks how end.OutOfMemory is refl same);
        unfound = λ n same. absurd (never is_of_blocks how (end.NoDevice n) is refl same);
        spent = λ same _. absurd (not_all is_of_blocks how is refl refl same);
        shows = record {
          long = λ same. head_beyond h t (err_of how end.TooLong same);
          within = λ other. head_within h t (λ bad. other (of_err how end.TooLong bad));
          bad = λ f same. absurd (never is_of_blocks how (end.BadSound f) is refl same);
          cut = λ same. absurd (never is_of_blocks how end.SoundCut is refl same);
        };
        failed = (omega arith, λ same. counted_before (faults source) (faults middle) count (faults source') (counts.1 (err_of how end.ReadFault same)));
      }

-- the tool ended for the front of the source, or for its device
pub unsound_use : {S X : Type 0} (left : S → Option (List ℕ)) (faults : S → ℕ) {form : Option SoundForm} (how : ToolEnd) {source source' : S} → EndShows form (IsErrOf {T = X} (Err how)) (left source) (left source') →
    CountsFault (IsErrOf {T = X} (Err how) end.ReadFault) (faults source) (faults source') → is_of_sound how ≡ true → UsesSource left faults true form how source source'
unsound_use left faults how t counts is = record {
  untouched = λ e. cc e;
  memory = λ same. absurd (never is_of_sound how end.OutOfMemory is refl same);
  unfound = λ n same. absurd (never is_of_sound how (end.NoDevice n) is refl same);
  spent = λ same _. absurd (not_all is_of_sound how is refl refl same);
  shows = record {
    long = λ same. t.long (err_of how end.TooLong same);
    within = λ other. t.within (λ bad. other (of_err how end.TooLong bad));
    bad = λ f same. t.bad f (err_of how (end.BadSound f) same);
    cut = λ same. t.cut (err_of how end.SoundCut same);
  };
  failed = (counts.0, λ same. counts.1 (err_of how end.ReadFault same));
}
