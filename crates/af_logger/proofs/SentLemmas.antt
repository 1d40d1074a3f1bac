-- What the tool has sent at its end, by its trace.
use Rattle.std.proofs.Common.{◌≡◌, ◌⊎◌, ◌↔◌, ℕ, true, false, List, sym, ap, ◌∙◌, refl, inl, inr, Result, Ok, Err, Option, None, Some}
use Rattle.std.specs.Prelude.{⊤}
use Rattle.af_request.specs.declared.reply.DeviceInfo.{DeviceInfo}
use Rattle.af_toolkit.specs.Device.{device_or_end}
use Rattle.af_toolkit.specs.declared.end.ToolEnd.{ToolEnd}
use Rattle.af_toolkit.specs.declared.end.ToolEnd.TheVariants as tool
use Rattle.af_toolkit.specs.Trace.{ClientState, done, ends}
use Rattle.af_toolkit.specs.Ends.{ObservedTrace, ToolRan, is_of_link_or_sink}
use Rattle.af_toolkit.proofs.ToolEndLemmas.{part_finish, tool_ran}
use Rattle.af_logger.specs.declared.job.LogJob.{LogJob}
use Rattle.af_logger.specs.Commands.{Desk}
use Rattle.af_logger.specs.Logged.{RanBy, SentBy, is_of_log}
use Rattle.af_logger.specs.Trace.{log_trace, logs_on}

-- the tool ran, by its trace
pub log_ran : (job : LogJob) (device : DeviceInfo) (w : ClientState) {how : ToolEnd} {s s' : Option (List ℕ)} → ObservedTrace (log_trace job device w) how s s' None None → ToolRan ⊤ (log_trace job device w) how s s' None None
unfolding log_trace tool_ran
log_ran job device w f = tool_ran f (λ _. part_finish (logs_on job device w).end (λ _. ends done) (λ _. inl refl))

-- the device is missing
pub missing_sent : {r : Result DeviceInfo ToolEnd} (job : LogJob) (w : ClientState) {how : ToolEnd} (s : Option (List ℕ)) → r ≡ Err how → SentBy r job w how s s
missing_sent job w s is = rw is (refl, refl)

pub missing_ran : {r : Result DeviceInfo ToolEnd} (job : LogJob) (w : ClientState) {how : ToolEnd} (s : Option (List ℕ)) (d : Option Desk) (h : Option (List ℕ)) → r ≡ Err how → RanBy r job w how s s d d h h
missing_ran job w s d h is = rw is (refl, refl, refl, refl)

-- or it is there
pub there_sent : {r : Result DeviceInfo ToolEnd} (job : LogJob) {device : DeviceInfo} (w : ClientState) {how : ToolEnd} {s s' : Option (List ℕ)} → r ≡ Ok device → ObservedTrace (log_trace job device w) how s s' None None → SentBy r job w how s s'
there_sent job {device} w is f = rw is (log_ran job device w f)

-- the end for a missing device comes exactly so
missing_at : (found : Option DeviceInfo) (count : ℕ) {how : ToolEnd} → device_or_end found count ≡ Err how → (found ≡ None) × (how ≡ tool.NoDevice count)
missing_at None count is = (refl, cc)
missing_at (Some device) count is = absurd (cc)

there_at : (found : Option DeviceInfo) (count : ℕ) {device : DeviceInfo} → device_or_end found count ≡ Ok device → found ≡ Some device
there_at None count is = absurd (cc)
there_at (Some device) count is = cc

pub missing_exactly : {found : Option DeviceInfo} {count : ℕ} {how : ToolEnd} → device_or_end found count ≡ Err how → (n : ℕ) → (how ≡ tool.NoDevice n) ↔ ((n ≡ count) × (found ≡ None))
missing_exactly {found} {count} is n =
    let way = missing_at found count is in
    (λ e. (let both : tool.NoDevice n ≡ tool.NoDevice count = sym e ∙ way.1 in (cc, way.0)), λ e. way.1 ∙ ap (λ (m : ℕ). tool.NoDevice m) (sym e.0))

pub there_exactly : {found : Option DeviceInfo} {count : ℕ} {device : DeviceInfo} {how : ToolEnd} → device_or_end found count ≡ Ok device → ((n : ℕ) → how ≡ tool.NoDevice n → ⊥) → (n : ℕ) → (how ≡ tool.NoDevice n) ↔ ((n ≡ count) × (found ≡ None))
there_exactly {found} {count} is other n =
    let there = there_at found count is in
    (λ e. absurd (other n e), λ e. absurd (let bad : None ≡ Some _ = sym e.1 ∙ there in cc bad))

-- the ends of the tool
pub missing_ends : (found : Option DeviceInfo) (count : ℕ) {how : ToolEnd} → device_or_end found count ≡ Err how → is_of_log how ≡ true
missing_ends found count is = ap is_of_log (missing_at found count is).1

pub ran_ends : (how : ToolEnd) → is_of_link_or_sink how ≡ true → is_of_log how ≡ true
ran_ends (tool.NoDevice devices) way = refl
ran_ends tool.Done way = refl
ran_ends how way = way

pub ran_there : (how : ToolEnd) → is_of_link_or_sink how ≡ true → (n : ℕ) → how ≡ tool.NoDevice n → ⊥
ran_there how way n is = let bad : true ≡ false = sym way ∙ ap is_of_link_or_sink is in cc bad

-- the device that was found
pub device_there : (found : Option DeviceInfo) (count : ℕ) {device : DeviceInfo} → (let r : Result DeviceInfo ToolEnd = Ok device in r ≡ device_or_end found count) → found ≡ Some device
device_there found count is = there_at found count (sym is)
