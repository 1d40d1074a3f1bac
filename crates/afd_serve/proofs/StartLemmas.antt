-- A listen, and then devices and programs of lines that are attached one by one.
use Rattle.std.proofs.Common.{◌≡◌, inl, inr, ℕ, map, zero, suc, ◌+◌, ◌<◌, ◌≤◌, List, [], ◌∷◌, ◌++◌, length, take, drop, get_or, slice_get, refl, sym, ap, ◌∙◌, subst, arith, take-append-drop, append_assoc, All, IsTrue, IfErr, Ok, Err}
use Rattle.std.proofs.lemmas.List.{take_all}
use Rattle.std.proofs.lemmas.List.Elements.{All-head, All-tail}
use Rattle.std.proofs.lemmas.Option.{slice_get-get_or}
use Rattle.std.specs.declared.option.Option.{Option}
use Rattle.std.specs.declared.option.Option.TheVariants.{Some}
use Rattle.std.specs.declared.result.Result.{Result}
use Rattle.af_world.specs.declared.lifecycle.Lifecycle.{Lifecycle}
use Rattle.af_world.specs.declared.lifecycle.Lifecycle.TheVariants as noted
use Rattle.af_world.specs.declared.script.DeviceSpec.{DeviceSpec}
use Rattle.af_world.specs.declared.lifecycle.ToldKind.{ToldKind}
use Rattle.af_io.specs.Observed.{Appended}
use Rattle.af_io.proofs.AppendedLemmas.{appended_on, appended_by_none}
use Rattle.af_world.specs.Outside.{spec_has_line}
use Rattle.af_config.specs.declared.line_program.OwnedLineProgram.{OwnedLineProgram}
use Rattle.af_config.specs.Kept.{owned_program}
use Rattle.af_config.specs.Stating.{Settings, LineProgram}
use Rattle.afd_serve.specs.declared.live.LiveEnd.{LiveEnd}
use Rattle.afd_serve.specs.declared.live.LiveEnd.TheVariants as end
use Rattle.afd_serve.specs.Serving.{all_attached, all_lines, line_entry, attached_from, start_entries}
use Rattle.afd_serve.specs.Starting.{AttachedUntil, AppendedInPart, DevicesUntil, LineFailed, LinesUntil, StartedUntil}

take_next : {A : Type 0} (xs : List A) (n : ℕ) (x : A) → slice_get xs n ≡ Some x → take (suc n) xs ≡ take n xs ++ x ∷ []
take_next [] n x e = absurd cc
take_next (y ∷ xs) zero x e = let same : y ≡ x = cc in ap (λ z. z ∷ []) same
take_next (y ∷ xs) (suc n) x e = ap (λ l. y ∷ l) (take_next xs n x e)

-- an element of a list that is read
pub stated_at : {A : Type 0} (xs ys : List A) (n : ℕ) (d : A) → ys ≡ xs → n < length ys → slice_get xs n ≡ Some (get_or ys n d)
stated_at xs ys n d e lt = subst (λ l. slice_get l n ≡ Some (get_or ys n d)) e (slice_get-get_or ys n d lt)

attached_at : (d n : ℕ) (config : List DeviceSpec) (kinds : List ToldKind) (spec : DeviceSpec) (kind : ToldKind) → slice_get config n ≡ Some spec → slice_get kinds n ≡ Some kind →
    slice_get (attached_from d config kinds) n ≡ Some (noted.Attached (d + n) spec kind)
attached_at d n [] kinds spec kind e k = absurd cc
attached_at d n (c ∷ config) [] spec kind e k = absurd cc
attached_at d zero (c ∷ config) (b ∷ kinds) spec kind e k =
    let spec_is : c ≡ spec = cc in let kind_is : b ≡ kind = cc in let zero_more : d ≡ d + 0 = omega arith in
    ap (λ x. Some (noted.Attached d x b)) spec_is ∙ ap (λ x. Some (noted.Attached d spec x)) kind_is ∙ ap (λ x. Some (noted.Attached x spec kind)) zero_more
attached_at d (suc n) (c ∷ config) (b ∷ kinds) spec kind e k =
    let one_more : suc d + n ≡ d + suc n = omega arith in attached_at (suc d) n config kinds spec kind e k ∙ ap (λ x. Some (noted.Attached x spec kind)) one_more

attached_fewer : (d : ℕ) (config : List DeviceSpec) (kinds : List ToldKind) → length (attached_from d config kinds) ≤ length config
attached_fewer d [] kinds = omega arith
attached_fewer d (c ∷ config) [] = omega arith
attached_fewer d (c ∷ config) (b ∷ kinds) = let fewer = attached_fewer (suc d) config kinds in omega arith

module _ (settings : Settings) (lifecycle lifecycle1 : Option (List Lifecycle)) (n : ℕ) (below : Appended lifecycle (take n (all_attached settings)) lifecycle1) where
  -- one device more
  pub attached_more : (spec : DeviceSpec) (kind : ToldKind) (lifecycle2 : Option (List Lifecycle)) → slice_get settings.config n ≡ Some spec → slice_get settings.kinds n ≡ Some kind →
      Appended lifecycle1 (noted.Attached n spec kind ∷ []) lifecycle2 → Appended lifecycle (take (n + 1) (all_attached settings)) lifecycle2
  attached_more spec kind lifecycle2 at after entry =
      let from_none : 0 + n ≡ n = omega arith in
      let one_more : suc n ≡ n + 1 = omega arith in
      let this : slice_get (all_attached settings) n ≡ Some (noted.Attached n spec kind) = attached_at 0 n settings.config settings.kinds spec kind at after ∙ ap (λ d. Some (noted.Attached d spec kind)) from_none in
      subst (λ m. Appended lifecycle (take m (all_attached settings)) lifecycle2) one_more
      (subst (λ l. Appended lifecycle l lifecycle2) (sym (take_next (all_attached settings) n (noted.Attached n spec kind) this))
      (appended_on lifecycle lifecycle1 lifecycle2 (take n (all_attached settings)) (noted.Attached n spec kind ∷ []) below entry))

  pub attached_all : length settings.config ≤ n → Appended lifecycle (all_attached settings) lifecycle1
  attached_all l = subst (λ x. Appended lifecycle x lifecycle1) (take_all n (all_attached settings) (let fewer = attached_fewer 0 settings.config settings.kinds in omega arith)) below

  pub attached_in_part : AppendedInPart (all_attached settings) lifecycle lifecycle1
  attached_in_part = record { front = take n (all_attached settings); rest = drop n (all_attached settings); whole = sym (take-append-drop n (all_attached settings)); appended = below }

mapped_at : (kept : List OwnedLineProgram) (n : ℕ) (d : OwnedLineProgram) → n < length kept → slice_get (map owned_program kept) n ≡ Some (owned_program (get_or kept n d))
mapped_at [] n d lt = absurd (omega (arith, lt))
mapped_at (p ∷ kept) zero d lt = refl
mapped_at (p ∷ kept) (suc n) d lt = mapped_at kept n d (omega (arith, lt))

entry_at : (programs : List LineProgram) (n : ℕ) (p : LineProgram) → slice_get programs n ≡ Some p → slice_get (map line_entry programs) n ≡ Some (line_entry p)
entry_at [] n p e = absurd cc
entry_at (q ∷ programs) zero p e = let same : q ≡ p = cc in ap (λ x. Some (line_entry x)) same
entry_at (q ∷ programs) (suc n) p e = entry_at programs n p e

entries_count : (programs : List LineProgram) → length (map line_entry programs) ≡ length programs
entries_count [] = refl
entries_count (p ∷ programs) = ap suc (entries_count programs)

module _ (settings : Settings) (lifecycle lifecycle1 : Option (List Lifecycle)) (n : ℕ) (below : Appended lifecycle (take n (all_lines settings)) lifecycle1) where
  -- one more program of a line
  pub lines_more : (p : LineProgram) (lifecycle2 : Option (List Lifecycle)) → slice_get settings.phones n ≡ Some p →
      Appended lifecycle1 (line_entry p ∷ []) lifecycle2 → Appended lifecycle (take (n + 1) (all_lines settings)) lifecycle2
  lines_more p lifecycle2 stated entry =
      let one_more : suc n ≡ n + 1 = omega arith in
      subst (λ m. Appended lifecycle (take m (all_lines settings)) lifecycle2) one_more
      (subst (λ l. Appended lifecycle l lifecycle2) (sym (take_next (all_lines settings) n (line_entry p) (entry_at settings.phones n p stated)))
      (appended_on lifecycle lifecycle1 lifecycle2 (take n (all_lines settings)) (line_entry p ∷ []) below entry))

  pub lines_all : length settings.phones ≤ n → Appended lifecycle (all_lines settings) lifecycle1
  lines_all l = subst (λ x. Appended lifecycle x lifecycle1) (take_all n (all_lines settings) (omega (arith, entries_count settings.phones, l))) below

  pub lines_in_part : AppendedInPart (all_lines settings) lifecycle lifecycle1
  lines_in_part = record { front = take n (all_lines settings); rest = drop n (all_lines settings); whole = sym (take-append-drop n (all_lines settings)); appended = below }

-- a program that is stated, as it is kept
program_at : (programs : List LineProgram) (kept : List OwnedLineProgram) (n : ℕ) (d : OwnedLineProgram) → programs ≡ map owned_program kept → n < length kept →
    slice_get programs n ≡ Some (owned_program (get_or kept n d))
program_at programs kept n d e lt = subst (λ l. slice_get l n ≡ Some (owned_program (get_or kept n d))) (sym e) (mapped_at kept n d lt)

pub program_read : (programs : List LineProgram) (kept : List OwnedLineProgram) (n : ℕ) (d : OwnedLineProgram) → d ≡ get_or kept n d → programs ≡ map owned_program kept → n < length kept →
    slice_get programs n ≡ Some (owned_program d)
program_read programs kept n d is e lt = program_at programs kept n d e lt ∙ ap (λ x. Some (owned_program x)) (sym is)

-- its device is one of the devices
all_at : (P : LineProgram → Type 0) (programs : List LineProgram) (n : ℕ) (p : LineProgram) → All P programs → slice_get programs n ≡ Some p → P p
all_at P [] n p all e = absurd cc
all_at P (q ∷ programs) zero p all e = let same : q ≡ p = cc in subst P same (All-head P q programs all)
all_at P (q ∷ programs) (suc n) p all e = all_at P programs n p (All-tail P q programs all) e

has_line_below : (config : List DeviceSpec) (d : ℕ) → IsTrue (spec_has_line config d) → d < length config
has_line_below [] d h = absurd cc
has_line_below (c ∷ config) zero h = omega arith
has_line_below (c ∷ config) (suc d) h = let below = has_line_below config d h in omega (arith, below)

-- the stated program of a line could not be attached
pub line_failed : (settings : Settings) (lifecycle lifecycle1 lifecycle2 : Option (List Lifecycle)) (n : ℕ) (p : LineProgram) →
    All (λ program. IsTrue (spec_has_line settings.config program.device)) settings.phones → slice_get settings.phones n ≡ Some p →
    Appended lifecycle (take n (all_lines settings)) lifecycle1 → Appended lifecycle1 [] lifecycle2 → LineFailed p.device settings lifecycle lifecycle2
line_failed settings lifecycle lifecycle1 lifecycle2 n p all stated below none = record {
  is_device = has_line_below settings.config p.device (all_at (λ program. IsTrue (spec_has_line settings.config program.device)) settings.phones n p all stated);
  number = n;
  program = p;
  stated = stated;
  of_device = refl;
  appended = appended_by_none lifecycle lifecycle1 lifecycle2 (take n (all_lines settings)) below none;
}

-- the attaches of devices ended early
pub devices_until : (ended : LiveEnd) (settings : Settings) (lifecycle lifecycle1 : Option (List Lifecycle)) → DevicesUntil ended settings lifecycle lifecycle1 → AttachedUntil ended settings lifecycle lifecycle1
devices_until (end.AttachFault d) settings lifecycle lifecycle1 s = record { is_device = s.0; before = take d (all_attached settings); cause = inl refl; appended = s.1 }
devices_until end.OutOfMemory settings lifecycle lifecycle1 s = record {
  front = s.front;
  rest = s.rest ++ all_lines settings;
  whole = ap (λ l. l ++ all_lines settings) s.whole ∙ append_assoc s.front s.rest (all_lines settings);
  appended = s.appended;
}
devices_until _ settings lifecycle lifecycle1 s = absurd s

-- the attaches of programs of lines ended early, after those of all devices
pub lines_until : (ended : LiveEnd) (settings : Settings) (lifecycle lifecycle1 lifecycle2 : Option (List Lifecycle)) → Appended lifecycle (all_attached settings) lifecycle1 →
    LinesUntil ended settings lifecycle1 lifecycle2 → AttachedUntil ended settings lifecycle lifecycle2
lines_until (end.AttachFault d) settings lifecycle lifecycle1 lifecycle2 all s = record {
  is_device = s.is_device;
  before = all_attached settings ++ take s.number (all_lines settings);
  cause = inr (record { number = s.number; program = s.program; stated = s.stated; of_device = s.of_device; entries_are = refl });
  appended = appended_on lifecycle lifecycle1 lifecycle2 (all_attached settings) (take s.number (all_lines settings)) all s.appended;
}
lines_until end.OutOfMemory settings lifecycle lifecycle1 lifecycle2 all s = record {
  front = all_attached settings ++ s.front;
  rest = s.rest;
  whole = ap (λ l. all_attached settings ++ l) s.whole ∙ sym (append_assoc (all_attached settings) s.front s.rest);
  appended = appended_on lifecycle lifecycle1 lifecycle2 (all_attached settings) s.front all s.appended;
}
lines_until _ settings lifecycle lifecycle1 lifecycle2 all s = absurd s

pub lines_ended : {A : Type 0} (r : Result A LiveEnd) (settings : Settings) (lifecycle lifecycle1 lifecycle2 : Option (List Lifecycle)) → Appended lifecycle (all_attached settings) lifecycle1 →
    IfErr r (λ ended. LinesUntil ended settings lifecycle1 lifecycle2) → IfErr r (λ ended. AttachedUntil ended settings lifecycle lifecycle2)
lines_ended (Ok x) settings lifecycle lifecycle1 lifecycle2 all h = tt
lines_ended (Err ended) settings lifecycle lifecycle1 lifecycle2 all h = lines_until ended settings lifecycle lifecycle1 lifecycle2 all h

module _ (address : List ℕ) (settings : Settings) (lifecycle lifecycle1 : Option (List Lifecycle)) (heard : Appended lifecycle (noted.Listened address ∷ []) lifecycle1) where
  -- memory ran out after the listen
  pub listened_alone : AppendedInPart (start_entries address settings) lifecycle lifecycle1
  listened_alone = record { front = noted.Listened address ∷ []; rest = all_attached settings ++ all_lines settings; whole = refl; appended = heard }

  -- the attaches ended after the listen
  pub started_until : (ended : LiveEnd) (lifecycle2 : Option (List Lifecycle)) → AttachedUntil ended settings lifecycle1 lifecycle2 → StartedUntil ended address settings lifecycle lifecycle2
  started_until (end.AttachFault d) lifecycle2 s = record {
    is_device = s.is_device;
    before = s.before;
    cause = s.cause;
    appended = appended_on lifecycle lifecycle1 lifecycle2 (noted.Listened address ∷ []) s.before heard s.appended;
  }
  started_until end.OutOfMemory lifecycle2 s = record {
    front = noted.Listened address ∷ s.front;
    rest = s.rest;
    whole = ap (λ l. noted.Listened address ∷ l) s.whole;
    appended = appended_on lifecycle lifecycle1 lifecycle2 (noted.Listened address ∷ []) s.front heard s.appended;
  }
  started_until _ lifecycle2 s = absurd s
