-- A client that plays blocks: its requests, and what is performed of them.
use Rattle.std.proofs.Common.{◌≡◌, ℕ, List, [], ◌∷◌, ◌++◌, map, flat_map, option_map, slice_get, refl, sym, ap, ◌∙◌, append_assoc}
use Rattle.std.proofs.lemmas.Grind.{flat_map-append}
use Rattle.std.proofs.lemmas.Option.{slice_get-map}
use Rattle.std.proofs.lemmas.List.Elements.{All-append, All-cons, All-head, All-nil, All-tail}
use Rattle.std.specs.List.{All}
use Rattle.std.specs.declared.option.Option.{Option}
use Rattle.std.specs.declared.option.Option.TheVariants.{Some}
use Rattle.af_context.specs.declared.Context.{Context}
use Rattle.af_wire.specs.declared.order.Order.{Order}
use Rattle.af_request.specs.Asked.{Asked}
use Rattle.af_request.specs.Requests.{IsWritable, request_bytes}
use Rattle.af_world.specs.Log.{Log}
use Rattle.af_model.specs.State.{LinkState, State}
use Rattle.af_model.specs.Perform.{channels_at}
use Rattle.af_model.proofs.BoolTestLemmas.{some_is}
use Rattle.af_end_to_end.specs.Sent.{spelled}
use Rattle.af_end_to_end.specs.Performing.{SentPlay, contexts_after, contexts_by, play_of_request, plays_by}
use Rattle.af_end_to_end.specs.Playing.{Performance, PlayedAt, Turn, played_at, plays_in, requests_of}
use Rattle.af_end_to_end.specs.Sounding.{IsHeard}
use Rattle.af_end_to_end.proofs.PerformedLemmas.{get_front}
use Rattle.af_end_to_end.proofs.ProgressLemmas.{plays_append}

-- what is at a place of a list, and at the same place of what its elements become
pub mapped_back : {X Y : Type 0} (f : X → Y) (xs : List X) (i : ℕ) (x : X) (y : Y) → slice_get xs i ≡ Some x → slice_get (map f xs) i ≡ Some y → y ≡ f x
mapped_back f xs i x y e g = some_is (sym g ∙ slice_get-map f xs i ∙ ap (option_map f) e)

pub mapped : {X Y : Type 0} (f : X → Y) (xs : List X) (i : ℕ) (x : X) → slice_get xs i ≡ Some x → slice_get (map f xs) i ≡ Some (f x)
mapped f xs i x e = slice_get-map f xs i ∙ ap (option_map f) e

pub all_of_map : {X Y : Type 0} (P : Y → Type 0) (f : X → Y) (xs : List X) → All P (map f xs) → All (λ x. P (f x)) xs
all_of_map P f [] h = All-nil (λ x. P (f x))
all_of_map P f (x ∷ xs) h = All-cons (λ x. P (f x)) x xs (All-head P (f x) (map f xs) h) (all_of_map P f xs (All-tail P (f x) (map f xs) h))

-- Requests for each block

pub spelled_each : {B : Type 0} (order : Order) (asks : B → List Asked) (bytes : B → List ℕ) → ((b : B) → spelled order (asks b) ≡ bytes b) → (bs : List B) → spelled order (flat_map asks bs) ≡ flat_map bytes bs
spelled_each order asks bytes one [] = refl
spelled_each order asks bytes one (b ∷ bs) =
    flat_map-append (request_bytes order) (asks b) (flat_map asks bs) ∙ ap (λ l. l ++ spelled order (flat_map asks bs)) (one b) ∙ ap (λ l. bytes b ++ l) (spelled_each order asks bytes one bs)

pub fits_each : {B : Type 0} (asks : B → List Asked) (P : B → Type 0) → ((b : B) → P b → All IsWritable (asks b)) → (bs : List B) → All P bs → All IsWritable (flat_map asks bs)
fits_each asks P one [] all = All-nil IsWritable
fits_each asks P one (b ∷ bs) all = All-append IsWritable (asks b) (flat_map asks bs) (one b (All-head P b bs all)) (fits_each asks P one bs (All-tail P b bs all))

-- if these leave the contexts and are one play, there is a play for each block
pub plays_each : {B : Type 0} (channels : ℕ → Option ℕ) (own : List Context) (asks : B → List Asked) (sent : B → SentPlay) (P : B → Type 0) → ((b : B) → contexts_by channels own (asks b) ≡ own) → ((b : B) → P b → plays_by channels own (asks b) ≡ sent b ∷ []) →
    (bs : List B) (more : List Asked) → All P bs → plays_by channels own (flat_map asks bs ++ more) ≡ map sent bs ++ plays_by channels own more
plays_each channels own asks sent P leaves one [] more all = refl
plays_each channels own asks sent P leaves one (b ∷ bs) more all =
    let first = asks b in
    let rest = flat_map asks bs in
    ap (plays_by channels own) (append_assoc first rest more) ∙ plays_append channels own first (rest ++ more)
    ∙ ap (λ l. l ++ plays_by channels (contexts_by channels own first) (rest ++ more)) (one b (All-head P b bs all))
    ∙ ap (λ x. sent b ∷ plays_by channels x (rest ++ more)) (leaves b)
    ∙ ap (λ l. sent b ∷ l) (plays_each channels own asks sent P leaves one bs more (All-tail P b bs all))

-- What was performed of them

sents_append : (t : State) (xs : List SentPlay) (ys : List PlayedAt) → map (λ (x : PlayedAt). x.sent) (played_at t xs ++ ys) ≡ xs ++ map (λ (x : PlayedAt). x.sent) ys
sents_append t [] ys = refl
sents_append t (x ∷ xs) ys = ap (λ l. x ∷ l) (sents_append t xs ys)

pub sents_of : (channels : ℕ → Option ℕ) (contexts : List Context) (done : List Performance) → map (λ (x : PlayedAt). x.sent) (plays_in channels contexts done) ≡ plays_by channels contexts (requests_of done)
sents_of channels contexts [] = refl
sents_of channels contexts (p ∷ done) =
    sents_append p.after (play_of_request channels contexts p.asked) (plays_in channels (contexts_after channels contexts p.asked) done)
    ∙ ap (λ l. play_of_request channels contexts p.asked ++ l) (sents_of channels (contexts_after channels contexts p.asked) done)

-- If there is a play for each block, the play at a place is that of the block there.
pub its_play : {B : Type 0} (sent : B → SentPlay) (blocks : List B) (log : Log) (k : ℕ) (s : State) (l : LinkState) (turns : List Turn) (requests : List Asked) (heard : IsHeard log k s l turns requests) → plays_by (channels_at s.devices) [] requests ≡ map sent blocks →
    (i : ℕ) (block : B) (x : PlayedAt) → slice_get blocks i ≡ Some block → slice_get (plays_in (channels_at s.devices) [] heard.plays_on.done) i ≡ Some x → x.sent ≡ sent block
its_play sent blocks log k s l turns requests heard all i block x at played =
    let channels = channels_at s.devices in
    let done = requests_of heard.plays_on.done in
    let plays = plays_in channels [] heard.plays_on.done in
    let first : slice_get (plays_by channels [] done) i ≡ Some x.sent = ap (λ l. slice_get l i) (sym (sents_of channels [] heard.plays_on.done)) ∙ mapped (λ (x : PlayedAt). x.sent) plays i x played in
    let whole : plays_by channels [] requests ≡ plays_by channels [] done ++ plays_by channels (contexts_by channels [] done) heard.more = ap (plays_by channels []) heard.in_order ∙ plays_append channels [] done heard.more in
    let same : slice_get (map sent blocks) i ≡ Some x.sent =
    ap (λ l. slice_get l i) (sym all ∙ whole) ∙ get_front (plays_by channels [] done) (plays_by channels (contexts_by channels [] done) heard.more) i x.sent first in
    mapped_back sent blocks i block x.sent at same
