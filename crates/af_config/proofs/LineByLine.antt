-- A text that is read line by line gives the configuration that it is.
use Rattle.std.proofs.Common.{◌≡◌, ◌≤◌, ℕ, zero, suc, ◌+◌, ◌-◌, Bool, true, false, not, ◌&&◌, ◌||◌, cond, List, [], ◌∷◌, ◌++◌, length, map, refl, sym, ap, ◌∙◌, arith, append_assoc, append-nil, length-append}
use Rattle.std.specs.Prelude.{Option, Some, None, option_map, unwrap_or, Result, Ok, Err, nat_lt}
use Rattle.std.proofs.lemmas.Bool.Decides.{nat_tests}
use Rattle.std.proofs.lemmas.List.Sums.{fold-append}
use Rattle.af_limits.specs.Limits.{most_devices}
use Rattle.af_world.specs.declared.script.DeviceSpec.{DeviceSpec}
use Rattle.af_world.specs.declared.lifecycle.ToldKind.{ToldKind}
use Rattle.af_text.specs.Lines.{is_nil, lines, words, with_first}
use Rattle.af_text.specs.Reading.{Entry, go_on, read_on}
use Rattle.af_text.proofs.LineByLine.{entry, entries_over, entries_read}
use Rattle.af_config.specs.Stating.{Settings, Configured, LineProgram, has_codec, is_codec, is_phone_line}
use Rattle.af_config.specs.Configuration.{is_idle, config_entries, placed_of, states_codec, placed_after, placed_within, device_lines, phone_lines, program_after, stated_program, programs_within, settings_with, settings_within, settings_of, settings_by, config_of}
use Rattle.af_config.specs.Reading.{with_configured, with_program, with_device_line, with_phone_line, expects_program, with_config_line, lacks_configured}
use Rattle.af_config.proofs.ProgramLemmas.{stated_alone, none_free}

-- a configuration so far, and the lines from this number on
abbrev pub read_from : Settings → ℕ → List (List ℕ) → Result Settings ℕ
read_from s n ls = read_on with_config_line lacks_configured s n ls

-- One line

abbrev line_of : List ℕ → ℕ → Entry (List ℕ)
line_of line n = record { number = n; said = line }

module _ (s : Settings) (line : List ℕ) where
  line_over : is_idle line ≡ true → with_config_line s line ≡ Some s
  line_over over = ap (λ t. cond t (Some s) (cond (expects_program s line) (with_phone_line s line) (with_device_line s line))) over

  line_read : is_idle line ≡ false → with_config_line s line ≡ cond (expects_program s line) (with_phone_line s line) (with_device_line s line)
  line_read read = ap (λ t. cond t (Some s) (cond (expects_program s line) (with_phone_line s line) (with_device_line s line))) read

  phone_read : is_idle line ≡ false → expects_program s line ≡ true → with_config_line s line ≡ with_phone_line s line
  phone_read read phone = line_read read ∙ ap (λ t. cond t (with_phone_line s line) (with_device_line s line)) phone

  device_read : is_idle line ≡ false → expects_program s line ≡ false → with_config_line s line ≡ with_device_line s line
  device_read read device = line_read read ∙ ap (λ t. cond t (with_phone_line s line) (with_device_line s line)) device

over : (n : ℕ) (line : List ℕ) (rest : List (List ℕ)) → is_idle line ≡ true → config_entries n (line ∷ rest) ≡ config_entries (suc n) rest
over n line rest e = entries_over is_idle (λ l. l) n line rest e

read : (n : ℕ) (line : List ℕ) (rest : List (List ℕ)) → is_idle line ≡ false → config_entries n (line ∷ rest) ≡ line_of line n ∷ config_entries (suc n) rest
read n line rest e = entries_read is_idle (λ l. l) n line rest e

-- Programs of telephone lines

-- a configuration so far, with these programs after it
abbrev with_programs : Settings → Result (List LineProgram) ℕ → Result Settings ℕ
with_programs s (Ok programs) = Ok (record s { phones = s.phones ++ programs })
with_programs s (Err n) = Err n

more_program : (s : Settings) (p : LineProgram) (n : ℕ) (r : Result (List LineProgram) ℕ) → with_programs (with_program s p) r ≡ with_programs s (with_first n (Some p) r)
more_program s p n (Ok programs) = ap (λ phones. Ok (record s { phones = phones })) (append_assoc s.phones (p ∷ []) programs)
more_program s p n (Err m) = refl

some_program : (phones : List LineProgram) (p : LineProgram) → is_nil (phones ++ p ∷ []) ≡ false
some_program [] p = refl
some_program (q ∷ phones) p = refl

-- one line, if reading goes on as the lines after it do
program_too : (s : Settings) (n : ℕ) (line : List ℕ) (rest : List (List ℕ)) → is_idle line ≡ false → expects_program s line ≡ true →
    ((p : LineProgram) → program_after s.config s.phones line ≡ Some p → read_from (with_program s p) (suc n) rest ≡ with_programs (with_program s p) (programs_within s.config (s.phones ++ p ∷ []) (config_entries (suc n) rest))) →
    read_from s n (line ∷ rest) ≡ with_programs s (programs_within s.config s.phones (config_entries n (line ∷ rest)))
program_too s n line rest states phone go =
    let es = config_entries (suc n) rest in
    ap (go_on (λ t. read_from t (suc n) rest) n) (phone_read s line states phone)
    ∙ elim (program_after s.config s.phones line) as (λ o. program_after s.config s.phones line ≡ o → go_on (λ t. read_from t (suc n) rest) n (option_map (with_program s) o) ≡ with_programs s (with_first n o (programs_within s.config (s.phones ++ stated_program line) es))) [
      | None ↦ λ none. refl
      | Some p ↦ λ is.
          go p is
          ∙ ap (λ ps. with_programs (with_program s p) (programs_within s.config (s.phones ++ ps) es)) (sym (stated_alone s.config s.phones line p is))
          ∙ more_program s p n (programs_within s.config (s.phones ++ stated_program line) es)
    ] refl
    ∙ ap (λ xs. with_programs s (programs_within s.config s.phones xs)) (sym (read n line rest states))

-- after the first phone line
programs_too : (s : Settings) (n : ℕ) (ls : List (List ℕ)) → is_nil s.config ≡ false → is_nil s.phones ≡ false → read_from s n ls ≡ with_programs s (programs_within s.config s.phones (config_entries n ls))
programs_too s n [] some phones =
    ap (λ t. cond t (Err n) (Ok s)) some ∙ ap (λ ps. Ok (record s { phones = ps })) (sym (append-nil s.phones))
programs_too s n (line ∷ rest) some phones =
    elim (is_idle line) as (λ t. is_idle line ≡ t → read_from s n (line ∷ rest) ≡ with_programs s (programs_within s.config s.phones (config_entries n (line ∷ rest)))) [
      | true ↦ λ idle.
          ap (go_on (λ t. read_from t (suc n) rest) n) (line_over s line idle)
          ∙ programs_too s (suc n) rest some phones ∙ ap (λ es. with_programs s (programs_within s.config s.phones es)) (sym (over n line rest idle))
      | false ↦ λ states.
          program_too s n line rest states (ap (λ t. not t || is_phone_line (words line)) phones)
          (λ p is. programs_too (with_program s p) (suc n) rest some (some_program s.phones p))
    ] refl

-- Devices

-- devices so far, and no program
abbrev devices_alone : List DeviceSpec → List ToldKind → Settings
devices_alone config kinds = record { config = config; kinds = kinds; phones = [] }

-- these devices, with further ones, and with the programs that these lines state
abbrev with_devices : List DeviceSpec → List ToldKind → List (Entry (List ℕ)) → Result (List Configured) ℕ → Result Settings ℕ
with_devices config kinds phones (Ok devices) = settings_within (config ++ map (λ d. d.spec) devices) (kinds ++ map (λ d. d.kind) devices) phones
with_devices config kinds phones (Err n) = Err n

-- these devices, and all that these lines state, if there may be so many more devices
abbrev stated_settings : List DeviceSpec → List ToldKind → ℕ → Bool → List (Entry (List ℕ)) → Result Settings ℕ
stated_settings config kinds room has es = with_devices config kinds (phone_lines es) (placed_within room has (device_lines es))

alone : (config : List DeviceSpec) (kinds : List ToldKind) (r : Result (List LineProgram) ℕ) (es : List (Entry (List ℕ))) → r ≡ programs_within config [] es → with_programs (devices_alone config kinds) r ≡ settings_within config kinds es
alone config kinds r es is = one r ∙ ap (settings_with config kinds) is
  where
    one : (r : Result (List LineProgram) ℕ) → with_programs (devices_alone config kinds) r ≡ settings_with config kinds r
    one (Ok programs) = refl
    one (Err n) = refl

more_device : (config : List DeviceSpec) (kinds : List ToldKind) (d : Configured) (n : ℕ) (es : List (Entry (List ℕ))) (r : Result (List Configured) ℕ) → with_devices (config ++ d.spec ∷ []) (kinds ++ d.kind ∷ []) es r ≡ with_devices config kinds es (with_first n (Some d) r)
more_device config kinds d n es (Ok devices) =
    ap (λ c. settings_within c ((kinds ++ d.kind ∷ []) ++ map (λ p. p.kind) devices) es) (append_assoc config (d.spec ∷ []) (map (λ p. p.spec) devices))
    ∙ ap (λ k. settings_within (config ++ d.spec ∷ map (λ p. p.spec) devices) k es) (append_assoc kinds (d.kind ∷ []) (map (λ p. p.kind) devices))
more_device config kinds d n es (Err m) = refl

no_more : (config : List DeviceSpec) (kinds : List ToldKind) (es : List (Entry (List ℕ))) → settings_within config kinds es ≡ with_devices config kinds es (Ok [])
no_more config kinds es =
    ap (λ c. settings_within c kinds es) (sym (append-nil config)) ∙ ap (λ k. settings_within (config ++ []) k es) (sym (append-nil kinds))

none_left : (room : ℕ) (has : Bool) → placed_within room has [] ≡ Ok []
none_left zero has = refl
none_left (suc room) has = refl

-- Which lines state what

module _ (config : List DeviceSpec) (kinds : List ToldKind) (room : ℕ) (has : Bool) (e : Entry (List ℕ)) (es : List (Entry (List ℕ))) where
  abbrev split : Bool → Result Settings ℕ
  split t = with_devices config kinds (cond t (e ∷ es) (phone_lines es)) (placed_within room has (cond t [] (e ∷ device_lines es)))

  phones_begin : is_phone_line (words e.said) ≡ true → settings_within config kinds (e ∷ es) ≡ stated_settings config kinds room has (e ∷ es)
  phones_begin phone = no_more config kinds (e ∷ es) ∙ ap (with_devices config kinds (e ∷ es)) (sym (none_left room has)) ∙ ap split (sym phone)

  device_first : is_phone_line (words e.said) ≡ false → with_devices config kinds (phone_lines es) (placed_within room has (e ∷ device_lines es)) ≡ stated_settings config kinds room has (e ∷ es)
  device_first device = ap split (sym device)

-- Codecs

-- one more device, which may have one
one_more : (kinds : List ToldKind) (d : Configured) (has more : Bool) → has_codec kinds ≡ has → more ≡ is_codec d.kind → has_codec (kinds ++ d.kind ∷ []) ≡ has || more
one_more kinds d has more had is =
    fold-append (λ b kind. b || is_codec kind) false kinds (d.kind ∷ []) ∙ ap (λ b. b || is_codec d.kind) had ∙ ap (λ b. has || b) (sym is)

-- a line that is allowed states a device
placed_alone : (has : Bool) (line : List ℕ) (d : Configured) → placed_after has line ≡ Some d → states_codec line ≡ is_codec d.kind
placed_alone has line d is =
    elim (has && states_codec line) as (λ t. cond t None (placed_of line) ≡ Some d → states_codec line ≡ is_codec d.kind) [
      | true ↦ λ none. cc none
      | false ↦ λ some. ap (λ o. unwrap_or (option_map (λ (device : Configured). is_codec device.kind) o) false) some
    ] is

some_more : (config : List DeviceSpec) (spec : DeviceSpec) → is_nil (config ++ spec ∷ []) ≡ false
some_more [] spec = refl
some_more (x ∷ config) spec = refl

-- One line among those that state devices

module _ (config : List DeviceSpec) (kinds : List ToldKind) (n : ℕ) (has : Bool) (line : List ℕ) (rest : List (List ℕ)) where
  abbrev reads_as : ℕ → Type 0
  reads_as room = read_from (devices_alone config kinds) n (line ∷ rest) ≡ stated_settings config kinds room has (config_entries n (line ∷ rest))

  -- it is the first phone line
  phone_line : (room : ℕ) → is_idle line ≡ false → is_phone_line (words line) ≡ true → ((p : LineProgram) → program_after config [] line ≡ Some p → is_nil config ≡ false) → reads_as room
  phone_line room states phone some =
      let es = config_entries (suc n) rest in
      let known = read n line rest states in
      program_too (devices_alone config kinds) n line rest states phone (λ p is. programs_too (with_program (devices_alone config kinds) p) (suc n) rest (some p is) refl)
      ∙ alone config kinds (programs_within config [] (config_entries n (line ∷ rest))) (line_of line n ∷ es) (ap (programs_within config []) known)
      ∙ phones_begin config kinds room has (line_of line n) es phone
      ∙ ap (stated_settings config kinds room has) (sym known)

  -- it may state no more devices
  full_line : is_idle line ≡ false → is_phone_line (words line) ≡ false → nat_lt (length config) most_devices ≡ false → reads_as zero
  full_line states device full =
      let es = config_entries (suc n) rest in
      ap (go_on (λ t. read_from t (suc n) rest) n) (device_read (devices_alone config kinds) line states device)
      ∙ ap (λ t. go_on (λ t. read_from t (suc n) rest) n (cond t (option_map (with_configured (devices_alone config kinds)) (placed_after (has_codec kinds) line)) None)) full
      ∙ device_first config kinds zero has (line_of line n) es device
      ∙ ap (stated_settings config kinds zero has) (sym (read n line rest states))

  -- it may state a device, and reading goes on as the lines after it do
  device_line : (room : ℕ) → is_idle line ≡ false → is_phone_line (words line) ≡ false → nat_lt (length config) most_devices ≡ true → has_codec kinds ≡ has →
      ((d : Configured) → placed_after has line ≡ Some d → read_from (devices_alone (config ++ d.spec ∷ []) (kinds ++ d.kind ∷ [])) (suc n) rest ≡ stated_settings (config ++ d.spec ∷ []) (kinds ++ d.kind ∷ []) room (has || states_codec line) (config_entries (suc n) rest)) →
      reads_as (suc room)
  device_line room states device few had go =
      let es = config_entries (suc n) rest in
      let later = placed_within room (has || states_codec line) (device_lines es) in
      ap (go_on (λ t. read_from t (suc n) rest) n) (device_read (devices_alone config kinds) line states device)
      ∙ ap (λ t. go_on (λ t. read_from t (suc n) rest) n (cond t (option_map (with_configured (devices_alone config kinds)) (placed_after (has_codec kinds) line)) None)) few
      ∙ ap (λ b. go_on (λ t. read_from t (suc n) rest) n (option_map (with_configured (devices_alone config kinds)) (placed_after b line))) had
      ∙ elim (placed_after has line) as (λ o. placed_after has line ≡ o → go_on (λ t. read_from t (suc n) rest) n (option_map (with_configured (devices_alone config kinds)) o) ≡ with_devices config kinds (phone_lines es) (with_first n o later)) [
        | None ↦ λ none. refl
        | Some d ↦ λ is. go d is ∙ more_device config kinds d n (phone_lines es) later
      ] refl
      ∙ device_first config kinds (suc room) has (line_of line n) es device
      ∙ ap (stated_settings config kinds (suc room) has) (sym (read n line rest states))

  -- it is skipped, and the lines after it are read
  idle_line : (room : ℕ) → is_idle line ≡ true → read_from (devices_alone config kinds) (suc n) rest ≡ stated_settings config kinds room has (config_entries (suc n) rest) → reads_as room
  idle_line room idle go =
      ap (go_on (λ t. read_from t (suc n) rest) n) (line_over (devices_alone config kinds) line idle)
      ∙ go ∙ ap (stated_settings config kinds room has) (sym (over n line rest idle))

-- after the first device
devices_too : (config : List DeviceSpec) (kinds : List ToldKind) (room n : ℕ) (has : Bool) (ls : List (List ℕ)) → is_nil config ≡ false → length config + room ≡ most_devices → has_codec kinds ≡ has → read_from (devices_alone config kinds) n ls ≡ stated_settings config kinds room has (config_entries n ls)
devices_too config kinds room n has [] some count had =
    ap (λ t. cond t (Err n) (Ok (devices_alone config kinds))) some ∙ no_more config kinds [] ∙ ap (with_devices config kinds []) (sym (none_left room has))
devices_too config kinds zero n has (line ∷ rest) some count had =
    elim (is_idle line) as (λ t. is_idle line ≡ t → reads_as config kinds n has line rest zero) [
      | true ↦ λ idle. idle_line config kinds n has line rest zero idle (devices_too config kinds zero (suc n) has rest some count had)
      | false ↦ λ states. elim (is_phone_line (words line)) as (λ t. is_phone_line (words line) ≡ t → reads_as config kinds n has line rest zero) [
        | true ↦ λ phone. phone_line config kinds n has line rest zero states phone (λ p is. some)
        | false ↦ λ device. full_line config kinds n has line rest states device (grind (arith, nat_tests))
      ] refl
    ] refl
devices_too config kinds (suc room) n has (line ∷ rest) some count had =
    elim (is_idle line) as (λ t. is_idle line ≡ t → reads_as config kinds n has line rest (suc room)) [
      | true ↦ λ idle. idle_line config kinds n has line rest (suc room) idle (devices_too config kinds (suc room) (suc n) has rest some count had)
      | false ↦ λ states. elim (is_phone_line (words line)) as (λ t. is_phone_line (words line) ≡ t → reads_as config kinds n has line rest (suc room)) [
        | true ↦ λ phone. phone_line config kinds n has line rest (suc room) states phone (λ p is. some)
        | false ↦ λ device. device_line config kinds n has line rest room states device (grind (arith, nat_tests)) had
            (λ d is. devices_too (config ++ d.spec ∷ []) (kinds ++ d.kind ∷ []) room (suc n) (has || states_codec line) rest (some_more config d.spec)
            (let len = length-append config (d.spec ∷ []) in omega (arith, len)) (one_more kinds d has (states_codec line) had (placed_alone has line d is)))
      ] refl
    ] refl

-- The whole text

-- no device so far
abbrev pub no_settings : Settings
no_settings = devices_alone [] []

-- there is an entry
entered : (r : Result (List Configured) ℕ) (es : List (Entry (List ℕ))) → with_devices [] [] es r ≡ settings_of r es
entered (Ok devices) es = refl
entered (Err n) es = refl

stated_all : (e : Entry (List ℕ)) (es : List (Entry (List ℕ))) (last : ℕ) → stated_settings [] [] most_devices false (e ∷ es) ≡ settings_by (e ∷ es) last
stated_all e es last = entered (placed_within most_devices false (device_lines (e ∷ es))) (phone_lines (e ∷ es))

first_line : (n : ℕ) (line : List ℕ) (rest : List (List ℕ)) → is_idle line ≡ false → reads_as [] [] n false line rest most_devices
first_line n line rest states =
    elim (is_phone_line (words line)) as (λ t. is_phone_line (words line) ≡ t → reads_as [] [] n false line rest most_devices) [
      | true ↦ λ phone. phone_line [] [] n false line rest most_devices states phone (λ p is. absurd (none_free [] line p is))
      | false ↦ λ device. device_line [] [] n false line rest (most_devices - 1) states device refl refl
          (λ d is. devices_too (d.spec ∷ []) (d.kind ∷ []) (most_devices - 1) (suc n) (states_codec line) rest refl refl (one_more [] d false (states_codec line) refl (placed_alone false line d is)))
    ] refl

read_all : (n : ℕ) (ls : List (List ℕ)) → read_from no_settings n ls ≡ settings_by (config_entries n ls) (n + length ls)
read_all n [] = ap Err (omega arith)
read_all n (line ∷ rest) =
    let es = config_entries (suc n) rest in
    let last = n + length (line ∷ rest) in
    let one : suc n + length rest ≡ last = omega arith in
    elim (is_idle line) as (λ t. is_idle line ≡ t → read_from no_settings n (line ∷ rest) ≡ settings_by (config_entries n (line ∷ rest)) last) [
      | true ↦ λ idle.
          ap (go_on (λ t. read_from t (suc n) rest) n) (line_over no_settings line idle)
          ∙ read_all (suc n) rest ∙ ap (settings_by es) one ∙ ap (λ xs. settings_by xs last) (sym (over n line rest idle))
      | false ↦ λ states.
          first_line n line rest states
          ∙ ap (stated_settings [] [] most_devices false) (read n line rest states)
          ∙ stated_all (line_of line n) es last
          ∙ ap (λ xs. settings_by xs last) (sym (read n line rest states))
    ] refl

-- if a device is not missing, there is one
pub some_device : (s : Settings) → lacks_configured s ≡ false → 1 ≤ length s.config
some_device s none = some s.config none
  where
    some : (config : List DeviceSpec) → is_nil config ≡ false → 1 ≤ length config
    some [] e = cc e
    some (d ∷ config) e = omega arith

-- a text has its first fault in only one line
pub one_fault : {A : Type 0} (r : Result A ℕ) (n m : ℕ) → r ≡ Err n → r ≡ Err m → n ≡ m
one_fault r n m first second = cc

-- a text that is read from its first line on gives the configuration that it is
pub read_start : (text : List ℕ) (s : Settings) → s.config ≡ [] → s.kinds ≡ [] → s.phones ≡ [] → read_from s 1 (lines text) ≡ config_of text
unfolding config_of
read_start text s no_config no_kind none =
    ap (λ (config : List DeviceSpec). read_from (record { config = config; kinds = s.kinds; phones = s.phones }) 1 (lines text)) no_config
    ∙ ap (λ (kinds : List ToldKind). read_from (record { config = []; kinds = kinds; phones = s.phones }) 1 (lines text)) no_kind
    ∙ ap (λ (phones : List LineProgram). read_from (record { config = []; kinds = []; phones = phones }) 1 (lines text)) none
    ∙ read_all 1 (lines text)
