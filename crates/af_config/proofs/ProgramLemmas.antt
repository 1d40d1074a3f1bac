-- Programs of telephone lines: each is for a device with a line, and no two are for one. So there are at most as many as devices.
use Rattle.std.proofs.Common.{◌≡◌, ℕ, zero, suc, ◌+◌, ◌<◌, ◌≤◌, Bool, true, false, not, ◌&&◌, ◌||◌, cond, inl, inr, List, [], ◌∷◌, ◌++◌, length, refl, sym, ap, ◌∙◌, subst, arith}
use Rattle.std.specs.Prelude.{◌==◌, Option, Some, None, option_and_then, option_to_list}
use Rattle.std.specs.Str.{is_utf8}
use Rattle.std.proofs.lemmas.Bool.{and_parts, not-true, eq-eqb, ne_eqb, cases_eq}
use Rattle.std.proofs.Math.Bool.{or-false, or-true}
use Rattle.std.proofs.lemmas.Option.{cond_some}
use Rattle.af_text.specs.Lines.{words}
use Rattle.af_text.specs.Words.{only_if}
use Rattle.af_world.specs.declared.script.DeviceSpec.{DeviceSpec}
use Rattle.af_world.specs.Outside.{spec_has_line}
use Rattle.af_config.specs.Stating.{LineProgram, line_program_of, has_program, has_free_line}
use Rattle.af_config.specs.Configuration.{stated_program, program_after}
use Rattle.af_config.specs.Reading.{programmed_count}

-- What a line states that is allowed

allowed : (test : LineProgram → Bool) (o : Option LineProgram) (p : LineProgram) → option_and_then (only_if test) o ≡ Some p → (o ≡ Some p) × (test p ≡ true)
allowed test None p e = cc e
allowed test (Some q) p e =
    let found = cond_some (test q) q p e in
    (ap Some found.1, subst (λ x. test x ≡ true) found.1 found.0)

after_says : (config : List DeviceSpec) (before : List LineProgram) (line : List ℕ) (p : LineProgram) → program_after config before line ≡ Some p → (line_program_of (words line) ≡ Some p) × (has_free_line config before p.device ≡ true)
after_says config before line p is =
    elim (is_utf8 line) as (λ t. cond t (option_and_then (only_if (λ (q : LineProgram). has_free_line config before q.device)) (line_program_of (words line))) None ≡ Some p → (line_program_of (words line) ≡ Some p) × (has_free_line config before p.device ≡ true)) [
      | true ↦ λ some. allowed (λ (q : LineProgram). has_free_line config before q.device) (line_program_of (words line)) p some
      | false ↦ λ none. cc none
    ] is

-- it states this program
pub stated_alone : (config : List DeviceSpec) (before : List LineProgram) (line : List ℕ) (p : LineProgram) → program_after config before line ≡ Some p → stated_program line ≡ p ∷ []
stated_alone config before line p is = ap option_to_list (after_says config before line p is).0

-- without a device no line is allowed
pub none_free : (before : List LineProgram) (line : List ℕ) (p : LineProgram) → program_after [] before line ≡ Some p → ⊥
none_free before line p is = let free = (after_says [] before line p is).1 in cc free

-- A line that is free

pub free_parts : (config : List DeviceSpec) (programs : List LineProgram) (d : ℕ) → has_free_line config programs d ≡ true → (spec_has_line config d ≡ true) × (has_program programs d ≡ false)
free_parts config programs d free =
    let both = and_parts (spec_has_line config d) (not (has_program programs d)) free in
    (both.0, not-true (has_program programs d) both.1)

-- its device exists
pub line_within : (config : List DeviceSpec) (d : ℕ) → spec_has_line config d ≡ true → d < length config
line_within [] d e = cc e
line_within (c ∷ config) zero e = omega arith
line_within (c ∷ config) (suc d) e = let less = line_within config d e in omega arith

-- How many devices have a program

has_more : (programs : List LineProgram) (p : LineProgram) (n : ℕ) → has_program (programs ++ p ∷ []) n ≡ has_program programs n || (p.device == n)
has_more [] p n = or-false (p.device == n)
has_more (q ∷ programs) p n =
    elim (q.device == n) as (λ t. t || has_program (programs ++ p ∷ []) n ≡ (t || has_program programs n) || (p.device == n)) [
      | true ↦ refl
      | false ↦ has_more programs p n
    ]

-- a program for another device makes no difference for this one
has_other : (programs : List LineProgram) (p : LineProgram) (n : ℕ) → (p.device ≡ n → ⊥) → has_program (programs ++ p ∷ []) n ≡ has_program programs n
has_other programs p n other =
    has_more programs p n ∙ ap (λ b. has_program programs n || b) (ne_eqb p.device n other) ∙ or-false (has_program programs n)

has_own : (programs : List LineProgram) (p : LineProgram) (n : ℕ) → p.device ≡ n → has_program (programs ++ p ∷ []) n ≡ true
has_own programs p n own =
    has_more programs p n ∙ ap (λ b. has_program programs n || b) (eq-eqb p.device n own) ∙ or-true (has_program programs n)

pub none_programmed : (n : ℕ) (config : List DeviceSpec) → programmed_count [] n config ≡ 0
none_programmed n [] = refl
none_programmed n (c ∷ config) = let none = none_programmed (suc n) config in omega arith

-- at most as many as there are
pub programmed_fewer : (programs : List LineProgram) (n : ℕ) (config : List DeviceSpec) → programmed_count programs n config ≤ length config
programmed_fewer programs n [] = omega arith
programmed_fewer programs n (c ∷ config) =
    let fewer = programmed_fewer programs (suc n) config in
    elim (has_program programs n) as (λ t. cond t 1 0 + programmed_count programs (suc n) config ≤ length (c ∷ config)) [ true ↦ omega arith | false ↦ omega arith ]

-- a program for a device before these
programmed_before : (programs : List LineProgram) (p : LineProgram) (n : ℕ) (config : List DeviceSpec) → p.device < n → programmed_count (programs ++ p ∷ []) n config ≡ programmed_count programs n config
programmed_before programs p n [] before = refl
programmed_before programs p n (c ∷ config) before =
    ap (λ t. cond t 1 0 + programmed_count (programs ++ p ∷ []) (suc n) config) (has_other programs p n (λ same. absurd (omega arith)))
    ∙ ap (λ m. cond (has_program programs n) 1 0 + m) (programmed_before programs p (suc n) config (omega arith))

-- a program for one of these that has none: one more has a program
pub programmed_more : (programs : List LineProgram) (p : LineProgram) (n : ℕ) (config : List DeviceSpec) → n ≤ p.device → p.device < n + length config → has_program programs p.device ≡ false → programmed_count (programs ++ p ∷ []) n config ≡ suc (programmed_count programs n config)
programmed_more programs p n [] from below free = absurd (omega arith)
programmed_more programs p n (c ∷ config) from below free =
    elim (cases_eq p.device n) [
      | inl own ↦
          let mine : has_program programs n ≡ false = subst (λ k. has_program programs k ≡ false) own free in
          let rest = programmed_before programs p (suc n) config (omega arith) in
          ap (λ t. cond t 1 0 + programmed_count (programs ++ p ∷ []) (suc n) config) (has_own programs p n own)
          ∙ (let one : 1 + programmed_count (programs ++ p ∷ []) (suc n) config ≡ suc (0 + programmed_count programs (suc n) config) = omega (arith, rest) in one)
          ∙ ap (λ t. suc (cond t 1 0 + programmed_count programs (suc n) config)) (sym mine)
      | inr other ↦
          let rest = programmed_more programs p (suc n) config (omega (arith, other)) (omega arith) free in
          ap (λ t. cond t 1 0 + programmed_count (programs ++ p ∷ []) (suc n) config) (has_other programs p n other)
          ∙ ap (λ m. cond (has_program programs n) 1 0 + m) rest
          ∙ (let one : cond (has_program programs n) 1 0 + suc (programmed_count programs (suc n) config) ≡ suc (cond (has_program programs n) 1 0 + programmed_count programs (suc n) config) = omega arith in one)
    ]
