-- How the commands of a call run, what they count as, and the environment in which they run.
use Rattle.std.specs.Prelude.{ℕ, ℤ, pos, negsuc, zero, suc, ◌+◌, ◌||◌, if◌then◌else◌, Bool, true, false, List, [], ◌∷◌, ◌++◌, codes, decimal}
use Rattle.std.specs.Prelude.{Option, None, Some}
use Rattle.af_answer.specs.Children.{shell_words}
use Rattle.af_attendant.specs.declared.job.AttendantJob.{AttendantJob}
use Rattle.af_attendant.specs.declared.ran.CallRuns.{CallRuns}
use Rattle.af_attendant.specs.declared.ran.EndCause.{EndCause}
use Rattle.af_attendant.specs.declared.ran.EndCause.TheVariants as cause
use Rattle.af_attendant.specs.declared.ran.Ran.{Ran}
use Rattle.af_attendant.specs.declared.ran.RunEnd.{RunEnd}
use Rattle.af_attendant.specs.declared.ran.RunEnd.TheVariants as run
use Rattle.af_attendant.specs.declared.tally.Tally.{Tally}
use Rattle.af_attendant.specs.Line.{LineState, call_digits}

-- it did not run; it could not be started, which is status 127; there was no memory to start it
abbrev pub not_run : Ran
not_run = record { end = run.NotRun; status = None }

abbrev pub not_started : Ran
not_started = record { end = run.Bad; status = Some 127 }

abbrev pub starved : Ran
starved = record { end = run.Starved; status = Some 127 }

-- status 0 is good
abbrev pub good_or_bad : Option ℤ → RunEnd
good_or_bad (Some (pos zero)) = run.Good
good_or_bad (Some (pos (suc n))) = run.Bad
good_or_bad (Some (negsuc n)) = run.Bad
good_or_bad None = run.Bad

-- a command that was ended by a digit counts as good, and another one as it ended
abbrev pub end_by : Option EndCause → Option ℤ → RunEnd
end_by (Some cause.Digit) status = run.Good
end_by (Some cause.HangUp) status = good_or_bad status
end_by None status = good_or_bad status

-- the number of a status: 127 also where the command could not be waited for
abbrev pub status_number : Option ℤ → ℕ
status_number (Some (pos n)) = n
status_number (Some (negsuc n)) = 127
status_number None = 127

abbrev pub ran_by : Option EndCause → Option ℤ → Ran
ran_by asked status = record { end = end_by asked status; status = Some (status_number status) }

abbrev pub is_good_end : RunEnd → Bool
is_good_end run.Good = true
is_good_end run.NotRun = false
is_good_end run.Bad = false
is_good_end run.Starved = false

abbrev pub is_good : Ran → Bool
is_good ran = is_good_end ran.end

abbrev pub is_starved_end : RunEnd → Bool
is_starved_end run.Starved = true
is_starved_end run.NotRun = false
is_starved_end run.Good = false
is_starved_end run.Bad = false

abbrev pub is_starved : CallRuns → Bool
is_starved runs = is_starved_end runs.greeting.end || is_starved_end runs.message.end

abbrev pub is_bad_end : RunEnd → Bool
is_bad_end run.Bad = true
is_bad_end run.NotRun = false
is_bad_end run.Good = false
is_bad_end run.Starved = false

-- a command of the call has failed
abbrev pub has_failed : CallRuns → Bool
has_failed runs = is_bad_end runs.greeting.end || is_bad_end runs.message.end

-- no call was answered yet
abbrev pub no_calls : Tally
no_calls = record { answered = 0; recorded = 0; failed = 0 }

-- the numbers after a call: it was answered; its message was recorded if that counts as good; and a command of it may have failed
abbrev pub tally_after : CallRuns → Tally → Tally
tally_after runs t = record {
  answered = t.answered + 1;
  recorded = t.recorded + (if is_good runs.message then 1 else 0);
  failed = t.failed + (if has_failed runs then 1 else 0);
}

-- The command line of a command of the call with this number: a shell runs its text, and finds in its environment the server, the
-- device, the number of the call, and the digits since the last hang-up.
abbrev pub command_words : AttendantJob → (call : ℕ) → (digits : List ℕ) → (text : List ℕ) → List (List ℕ)
command_words job call digits text =
    codes "env"
    ∷ (codes "AUDIOFILE_SERVER=" ++ job.server.bytes)
    ∷ (codes "AUDIOFILE_DEVICE=" ++ decimal job.answer.device)
    ∷ (codes "AUDIOFILE_CALL=" ++ decimal call)
    ∷ (codes "AUDIOFILE_DIGITS=" ++ digits)
    ∷ shell_words text

-- `-` stands for what is missing
abbrev pub or_dash : List ℕ → List ℕ
or_dash [] = codes "-"
or_dash (c ∷ more) = c ∷ more

abbrev pub status_text : Option ℕ → List ℕ
status_text None = codes "-"
status_text (Some status) = decimal status

-- the line of a call: its number, the time of the ring at which it was taken, its digits, and the statuses of its commands
unfoldable pub call_line : (call time : ℕ) → (digits : List ℕ) → CallRuns → List ℕ
call_line call time digits runs =
    codes "call " ++ decimal call ++ codes " at " ++ decimal time ++ codes " digits " ++ or_dash digits
    ++ codes " greeting " ++ status_text runs.greeting.status ++ codes " message " ++ status_text runs.message.status
    ++ codes "\n"

-- the line that a machine writes at its end
unfoldable pub tally_text : Tally → List ℕ
tally_text t =
    codes "answered " ++ decimal t.answered ++ codes " recorded " ++ decimal t.recorded ++ codes " failed " ++ decimal t.failed
    ++ codes "\n"
