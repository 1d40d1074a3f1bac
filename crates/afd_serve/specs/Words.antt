-- The arguments of the server's command: `serve ADDRESS WAITS`, where WAITS may be `forever`.
use Rattle.std.specs.Prelude.{◌≡◌, ℕ, ◌-◌, ◌^◌, nat_le, ◌&&◌, List, [], ◌∷◌, length, codes, bytes_eq, Bool, Option, None, Some, option_map, if◌then◌else◌}
use Rattle.af_limits.specs.Limits.{longest_address}
use Rattle.af_text.specs.Words.{long_number_within}
use Rattle.afd_serve.specs.declared.words.Command.{Command}
use Rattle.afd_serve.specs.declared.words.Waits.{Waits}
use Rattle.afd_serve.specs.declared.words.Waits.TheVariants as waits

-- the address at which links are accepted, and after how many waits the server ends, if it ends by itself
pub record ServeJob : Type 0 where
  pub address : List ℕ
  pub waits : Waits

-- how many waits an argument states: a number, or as many as come
abbrev pub waits_stated : List ℕ → Option Waits
waits_stated word =
    if bytes_eq word (codes "forever") then Some waits.Forever
    else option_map (λ n. waits.Number n) (long_number_within 1 (2 ^ 63 - 1) word)

-- an address has 1 to 64 bytes
abbrev pub is_address : List ℕ → Bool
is_address word = nat_le 1 (length word) && nat_le (length word) longest_address

abbrev pub job_at : List ℕ → Waits → ServeJob
job_at address waits = record { address = address; waits = waits }

-- what three arguments ask for
abbrev pub serve_job_of_three : List ℕ → List ℕ → List ℕ → Option ServeJob
serve_job_of_three name address waits =
    if bytes_eq name (codes "serve") then (if is_address address then option_map (job_at address) (waits_stated waits) else None)
    else None

-- what the arguments ask for
abbrev pub serve_job_of : List (List ℕ) → Option ServeJob
serve_job_of (name ∷ address ∷ waits ∷ []) = serve_job_of_three name address waits
serve_job_of _ = None

-- the arguments ask for a server that goes on until it is ended
abbrev pub AsksForever : List (List ℕ) → Type 0
AsksForever words = (address : List ℕ) × (serve_job_of words ≡ Some (job_at address waits.Forever))

-- what a command asks for
abbrev pub job_of_command : Command → ServeJob
job_of_command command = job_at command.address.now command.waits
