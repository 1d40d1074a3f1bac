-- A configuration so far keeps to its bounds.
use Rattle.std.proofs.Common.{◌≡◌, ◌<◌, ◌≤◌, ◌++◌, List, [], ◌∷◌, length, true, IsTrue, refl, sym, ap, ◌∙◌, subst, arith, length-append}
use Rattle.std.specs.Prelude.{All}
use Rattle.std.proofs.lemmas.List.Elements.{All-nil, All-push}
use Rattle.af_limits.specs.Limits.{most_devices}
use Rattle.af_sample.specs.Channels.{IsChannelCount}
use Rattle.af_sample.specs.Rates.{IsListedRate}
use Rattle.af_text.specs.Lines.{is_nil}
use Rattle.af_world.specs.Outside.{spec_has_line}
use Rattle.af_config.specs.Stating.{Settings, Configured, LineProgram, has_free_line}
use Rattle.af_config.specs.Reading.{IsSound, with_configured, with_program, programmed_count}
use Rattle.af_config.proofs.ProgramLemmas.{free_parts, line_within, none_programmed, programmed_fewer, programmed_more}

all_none : {A : Type 0} (P : A → Type 0) (xs : List A) → xs ≡ [] → All P xs
all_none P xs none = subst (All P) (sym none) (All-nil P)

-- no devices
pub none_sound : (s : Settings) → s.config ≡ [] → s.kinds ≡ [] → s.phones ≡ [] → IsSound s
none_sound s none no_kind no_program =
    let devices = ap length none in
    let kinds = ap length no_kind in
    record {
      few = omega (arith, devices);
      kinds = omega (arith, devices, kinds);
      rates = all_none (λ device. IsListedRate device.rate) s.config none;
      channels = all_none (λ device. IsChannelCount device.channels) s.config none;
      lines = all_none (λ program. IsTrue (spec_has_line s.config program.device)) s.phones no_program;
      apart = ap length no_program ∙ sym (ap (programmed_count s.phones 0) none);
    }

-- one more device, as long as there is no program
pub device_sound : (s : Settings) (d : Configured) → IsSound s → s.phones ≡ [] → length s.config < most_devices → IsListedRate d.spec.rate → IsChannelCount d.spec.channels → IsSound (with_configured s d)
device_sound s d sound none room listed channels =
    let devices = length-append s.config (d.spec ∷ []) in
    let kinds = length-append s.kinds (d.kind ∷ []) in
    record {
      few = omega (arith, devices);
      kinds = omega (arith, devices, kinds, sound.kinds);
      rates = All-push (λ device. IsListedRate device.rate) s.config d.spec sound.rates listed;
      channels = All-push (λ device. IsChannelCount device.channels) s.config d.spec sound.channels channels;
      lines = all_none (λ program. IsTrue (spec_has_line (s.config ++ d.spec ∷ []) program.device)) s.phones none;
      apart = subst (λ phones. length phones ≡ programmed_count phones 0 (s.config ++ d.spec ∷ [])) (sym none) (sym (none_programmed 0 (s.config ++ d.spec ∷ [])));
    }

-- one more program, for a device whose line is free
pub program_sound : (s : Settings) (p : LineProgram) → IsSound s → has_free_line s.config s.phones p.device ≡ true → IsSound (with_program s p)
program_sound s p sound free =
    let parts = free_parts s.config s.phones p.device free in
    let there = line_within s.config p.device parts.0 in
    let count = length-append s.phones (p ∷ []) in
    let more = programmed_more s.phones p 0 s.config (omega arith) (omega (arith, there)) parts.1 in
    record {
      few = sound.few;
      kinds = sound.kinds;
      rates = sound.rates;
      channels = sound.channels;
      lines = All-push (λ program. IsTrue (spec_has_line s.config program.device)) s.phones p sound.lines parts.0;
      apart = omega (arith, count, more, sound.apart);
    }

pub no_programs : (programs : List LineProgram) → is_nil programs ≡ true → programs ≡ []
no_programs [] e = refl
no_programs (p ∷ programs) e = cc e

-- there are at most as many programs as devices
pub few_programs : (s : Settings) → IsSound s → length s.phones ≤ most_devices
few_programs s sound =
    let fewer = programmed_fewer s.phones 0 s.config in
    omega (arith, fewer, sound.apart, sound.few)
