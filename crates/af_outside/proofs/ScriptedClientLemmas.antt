-- What the client of an open link answers.
use Rattle.std.proofs.Common.{◌≡◌, ℕ, zero, suc, ◌<◌, List, [], ◌∷◌, length, take, drop, Bool, true, false, refl, sym, ap, ◌∙◌, arith, ◌==◌}
use Rattle.std.specs.Prelude.{if◌then◌else◌, option_map}
use Rattle.std.specs.declared.option.Option.TheVariants.{None, Some}
use Rattle.af_limits.specs.Limits.{longest_read}
use Rattle.af_world.specs.declared.happening.ReadGot.{ReadGot}
use Rattle.af_world.specs.declared.happening.ReadGot.TheVariants.{Given, NotYet, Ended}
use Rattle.af_world.specs.Outside.{ScriptedClient, client_after_call, client_after_fault, fresh_client, client_after_give, client_after_read, same_bytes, client_after_write}
use Rattle.af_outside.specs.Tape.{client_where}
use Rattle.af_world.proofs.EqualityTestLemmas.{eq-refl, same_bytes-refl}

drop_taken : (n : ℕ) (xs : List ℕ) → drop (length (take n xs)) xs ≡ drop n xs
drop_taken zero xs = refl
drop_taken (suc n) [] = refl
drop_taken (suc n) (x ∷ xs) = drop_taken n xs

first_given : (xs bytes : List ℕ) (client : ScriptedClient) → 0 < length (take longest_read xs) → bytes ≡ take longest_read xs → client_after_give (Given bytes) xs client ≡ Some (record client { gives = drop longest_read xs })
first_given [] bytes client some e = absurd (omega (arith, some))
first_given (x ∷ xs) bytes client some e =
    ap (λ t. if t then Some (record client { gives = drop longest_read (x ∷ xs) }) else None) (ap (λ b. same_bytes b (take longest_read (x ∷ xs))) e ∙ same_bytes-refl (take longest_read (x ∷ xs)))

-- what is answered where no byte is left to be read
abbrev pub nothing_given : Bool → ReadGot
nothing_given ends = if ends then Ended else NotYet

none_given : (xs : List ℕ) (client : ScriptedClient) (ends : Bool) → length (take longest_read xs) ≡ 0 → client.ends ≡ ends → client_after_give (nothing_given ends) xs client ≡ Some client
none_given [] client true none e = ap (λ t. if t then Some client else None) e
none_given [] client false none e = ap (λ t. if t then None else Some client) e
none_given (x ∷ xs) client ends none e = absurd (omega (arith, none))

-- a read of an open link that does not fail is answered by what its client gives
unfailing : (is_open : Bool) (client client' : ScriptedClient) (got : ReadGot) → is_open ≡ true → client.fails_read ≡ false → client_after_give got client.gives client ≡ Some client' →
    client_after_call (client_after_read got) (client_where is_open client) ≡ Some (client_where is_open client')
unfailing false client client' got opened flag gives = absurd cc
unfailing true client client' got opened flag gives =
    ap (λ t. option_map (λ (p : ScriptedClient). Some p) (if t then client_after_fault got client else client_after_give got client.gives client)) flag
    ∙ ap (option_map (λ (p : ScriptedClient). Some p)) gives

-- the first bytes that are left are the answer to a read
pub read_first : (is_open : Bool) (client : ScriptedClient) (n room : ℕ) (bytes rest : List ℕ) → is_open ≡ true → client.fails_read ≡ false → room ≡ longest_read → n ≡ length (take room client.gives) →
    0 < n → bytes ≡ take room client.gives → rest ≡ drop n client.gives →
    client_after_call (client_after_read (Given bytes)) (client_where is_open client) ≡ Some (client_where is_open (record client { gives = rest }))
read_first is_open client n room bytes rest opened flag whole count some given left =
    let count' : n ≡ length (take longest_read client.gives) = count ∙ ap (λ m. length (take m client.gives)) whole in
    let rest' : drop longest_read client.gives ≡ rest = sym (left ∙ ap (λ m. drop m client.gives) count' ∙ drop_taken longest_read client.gives) in
    unfailing is_open client _ (Given bytes) opened flag
    (first_given client.gives bytes client (omega arith) (given ∙ ap (λ m. take m client.gives) whole) ∙ ap (λ (xs : List ℕ). Some (record client { gives = xs })) rest')

-- nothing is left to be read, and the client stays as it is
as_before : (client : ScriptedClient) (n : ℕ) (rest : List ℕ) → rest ≡ drop n client.gives → n ≡ 0 → client ≡ record client { gives = rest }
as_before client n rest left none = ap (λ (xs : List ℕ). (let p : ScriptedClient = record client { gives = xs } in p)) (sym (left ∙ ap (λ m. drop m client.gives) none))

-- Ended is the answer to a read if no byte is left and an end is stated, and NotYet if none is
pub read_nothing : (is_open : Bool) (client : ScriptedClient) (n room : ℕ) (rest : List ℕ) (ends : Bool) → is_open ≡ true → client.fails_read ≡ false → room ≡ longest_read → n ≡ length (take room client.gives) →
    n ≡ 0 → client.ends ≡ ends → rest ≡ drop n client.gives →
    client_after_call (client_after_read (nothing_given ends)) (client_where is_open client) ≡ Some (client_where is_open (record client { gives = rest }))
read_nothing is_open client n room rest ends opened flag whole count none stated left =
    unfailing is_open client _ (nothing_given ends) opened flag
    (none_given client.gives client ends (sym (count ∙ ap (λ m. length (take m client.gives)) whole) ∙ none) stated ∙ ap (λ (p : ScriptedClient). Some p) (as_before client n rest left none))

-- a link that is not open takes all
pub written_closed : (n : ℕ) (bytes : List ℕ) → length bytes ≡ n → client_after_call (client_after_write n (Some bytes)) None ≡ Some None
written_closed n bytes count = ap (λ t. option_map (λ (p : ScriptedClient). None) (if t then Some fresh_client else None)) (ap (λ m. m == n) count ∙ eq-refl n)
