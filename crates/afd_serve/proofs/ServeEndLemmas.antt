-- The ends of a server, by what its parts promise.
use Rattle.std.proofs.Common.{◌≡◌, ℕ, ◌+◌, ◌≤◌, List, ◌++◌, length, refl, sym, ap, ◌∙◌, subst, arith, append-nil, length-append, IsSome, IsOk, Ok, Err}
use Rattle.std.specs.declared.option.Option.{Option}
use Rattle.std.specs.declared.option.Option.TheVariants.{None, Some}
use Rattle.std.specs.declared.result.Result.{Result}
use Rattle.af_limits.specs.Limits.{longest_config}
use Rattle.af_world.specs.declared.lifecycle.Lifecycle.{Lifecycle}
use Rattle.af_io.specs.Observed.{Appended, Unchanged}
use Rattle.af_world.specs.Log.{Log}
use Rattle.af_io.specs.Flow.{ConsumedTooMuch, ConsumedWhole}
use Rattle.af_text.specs.Reading.{IsGoodText}
use Rattle.af_config.specs.Stating.{Settings}
use Rattle.af_config.specs.Configuration.{config_of}
use Rattle.afd_serve.specs.declared.live.LiveEnd.{LiveEnd}
use Rattle.afd_serve.specs.declared.live.LiveEnd.TheVariants as end
use Rattle.af_world.specs.declared.script.DeviceSpec.{DeviceSpec}
use Rattle.afd_serve.specs.declared.words.Waits.{Waits}
use Rattle.afd_serve.specs.declared.words.Waits.TheVariants as waits
use Rattle.afd_serve.specs.Words.{AsksForever, ServeJob, job_at, serve_job_of}
use Rattle.afd_serve.specs.Serving.{start_entries}
use Rattle.afd_serve.specs.Starting.{IsReadEnd, IsReadFrom, StartedUntil}
use Rattle.afd_serve.specs.Rounds.{ServedUntil}
use Rattle.afd_serve.specs.Ends.{EndsWell, FailedAt, IsCount, IsFaultyConfig, IsTold, ServerRan, StartedInPart, Unheard, last_entry}
use Rattle.afd_serve.proofs.ServeRoundLemmas.{served_after}

-- A good configuration is read

consumed_less : (most : ℕ) (text : List ℕ) (left' : Option (List ℕ)) → IsSome left' → length text ≤ most → ConsumedTooMuch most (Some text) left' → ⊥
consumed_less most text None tells short g = absurd cc
consumed_less most text (Some after) tells short g =
    let whole : length text ≡ length g.text + length after = ap length g.consumed ∙ length-append g.text after in
    let beyond = g.beyond in
    absurd (omega (arith, whole, beyond, short))

consumed_all : (most : ℕ) (text given : List ℕ) (left' : Option (List ℕ)) → IsSome left' → ConsumedWhole most (Some text) left' given → text ≡ given
consumed_all most text given None tells g = absurd cc
consumed_all most text given (Some after) tells g = g.consumed ∙ ap (λ l. given ++ l) g.spent ∙ append-nil given

ok_is_no_fault : {A : Type 0} (r : Result A ℕ) (line : ℕ) → IsOk r → r ≡ Err line → ⊥
ok_is_no_fault (Ok x) line ok e = absurd cc
ok_is_no_fault (Err n) line ok e = absurd cc

module _ (left left' : Option (List ℕ)) (good : IsGoodText config_of longest_config left left') where
  -- it is not too long, and has no fault
  pub good_is_short : ConsumedTooMuch longest_config left left' → ⊥
  good_is_short g = consumed_less longest_config good.text left' good.tells good.within (subst (λ l. ConsumedTooMuch longest_config l left') good.told g)

  pub good_is_configuration : (line : ℕ) → IsFaultyConfig line left left' → ⊥
  good_is_configuration line f =
      let whole : ConsumedWhole longest_config (Some good.text) left' f.text = subst (λ l. ConsumedWhole longest_config l left' f.text) good.told f.read in
      let same = consumed_all longest_config good.text f.text left' good.tells whole in
      ok_is_no_fault (config_of good.text) line good.means (ap config_of same ∙ f.fault)

  -- so the reading can only end by running out of memory
  pub good_read : (ended : LiveEnd) → IsReadEnd ended → (ended ≡ end.ReadFault → ⊥) → (ended ≡ end.TooLong → ConsumedTooMuch longest_config left left') → ((line : ℕ) → ended ≡ end.ConfigFault line → IsFaultyConfig line left left') → EndsWell ended
  good_read end.ReadFault is cause long fault = absurd (cause refl)
  good_read end.TooLong is cause long fault = absurd (good_is_short (long refl))
  good_read (end.ConfigFault line) is cause long fault = absurd (good_is_configuration line (fault line refl))
  good_read end.OutOfMemory is cause long fault = tt
  good_read _ is cause long fault = absurd is

-- What came before an end

module _ (words : List (List ℕ)) (left left' : Option (List ℕ)) (job : ServeJob) (asks : Some job ≡ serve_job_of words) (settings : Settings) (read : IsReadFrom left left' settings) where
  abbrev is_told : IsTold words left left'
  is_told = record { job = job; asks = sym asks; text = read.text; read = read.read; settings = settings; states = read.states }

  module _ (lifecycle lifecycle' : Option (List Lifecycle)) where
    pub unheard : (ended : LiveEnd) → StartedUntil ended job.address settings lifecycle lifecycle' → ended ≡ end.ListenFault → Unheard words left left' lifecycle lifecycle'
    unheard ended s e = record { told = is_told; appended = subst (λ x. StartedUntil x job.address settings lifecycle lifecycle') e s }

    pub failed_at : (ended : LiveEnd) → StartedUntil ended job.address settings lifecycle lifecycle' → (d : ℕ) → ended ≡ end.AttachFault d → FailedAt d words left left' lifecycle lifecycle'
    failed_at ended s d e =
        let at = subst (λ x. StartedUntil x job.address settings lifecycle lifecycle') e s in
        record { told = is_told; failed = at }

    pub started_in_part : (ended : LiveEnd) → StartedUntil ended job.address settings lifecycle lifecycle' → ended ≡ end.OutOfMemory → StartedInPart words left left' lifecycle lifecycle'
    started_in_part ended s e =
        let part = subst (λ x. StartedUntil x job.address settings lifecycle lifecycle') e s in
        record { told = is_told; front = part.front; rest = part.rest; whole = part.whole; appended = part.appended }

  pub ran : (ended : LiveEnd) (log log1 log2 : Option Log) (lifecycle lifecycle1 lifecycle2 : Option (List Lifecycle)) → Unchanged log log1 → Appended lifecycle (start_entries job.address settings) lifecycle1 → ServedUntil settings.config ended job.waits log1 log2 lifecycle1 lifecycle2 →
      ServerRan ended words left left' log log2 lifecycle lifecycle2
  ran ended log log1 log2 lifecycle lifecycle1 lifecycle2 quiet appended s = record {
    told = is_told;
    waits = s.asked;
    count = s.count;
    served = served_after settings.config (start_entries job.address settings) (last_entry ended) s.asked log log1 log2 lifecycle lifecycle1 lifecycle2 quiet appended s.served;
  }

-- A server that is to go on forever does not end for want of waits

-- this is what the arguments ask of it
pub asks_on : (words : List (List ℕ)) (job : ServeJob) → Some job ≡ serve_job_of words → AsksForever words → job.waits ≡ waits.Forever
asks_on words job asks forever =
    let same : Some job ≡ Some (job_at forever.0 waits.Forever) = asks ∙ forever.1 in
    let job_is : job ≡ job_at forever.0 waits.Forever = cc in
    ap (λ (j : ServeJob). j.waits) job_is

pub read_unspent : (ended : LiveEnd) → IsReadEnd ended → ended ≡ end.WaitsSpent → ⊥
read_unspent ended is e = subst IsReadEnd e is

pub start_unspent : (ended : LiveEnd) (address : List ℕ) (settings : Settings) (lifecycle lifecycle' : Option (List Lifecycle)) → StartedUntil ended address settings lifecycle lifecycle' → ended ≡ end.WaitsSpent → ⊥
start_unspent ended address settings lifecycle lifecycle' s e = subst (λ x. StartedUntil x address settings lifecycle lifecycle') e s

pub on_unspent : (config : List DeviceSpec) (ended : LiveEnd) (most : Waits) (log log' : Option Log) (lifecycle lifecycle' : Option (List Lifecycle)) → ServedUntil config ended most log log' lifecycle lifecycle' → most ≡ waits.Forever → ended ≡ end.WaitsSpent → ⊥
on_unspent config ended most log log' lifecycle lifecycle' s on e =
    subst (λ x. IsCount x (length s.asked) waits.Forever) e (subst (λ w. IsCount ended (length s.asked) w) on s.count)
