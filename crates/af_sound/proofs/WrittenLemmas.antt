-- What is written is a header.
use Rattle.std.proofs.Common.{◌≡◌, ◌<◌, ◌*◌, ◌%◌, ◌^◌, ℕ, Option, Some, None, List, [], ◌++◌, refl, sym, arith, lit<}
use Rattle.std.specs.Prelude.{IsTrue, codes}
use Rattle.std.proofs.lemmas.Bool.Decides.{nat_tests}
use Rattle.std.proofs.lemmas.List.{append-nil}
use Rattle.std.proofs.lemmas.Nat.{from_be_bytes-to_be_bytes_4, from_le_bytes-to_le_bytes_2, from_le_bytes-to_le_bytes_4}
use Rattle.af_sound.specs.declared.head.SoundForm.TheVariants.{Au, Wave}
use Rattle.af_sound.specs.declared.head.SoundHead.{SoundHead}
use Rattle.af_sound.specs.declared.head.Coding.{Coding}
use Rattle.af_sound.specs.declared.head.Coding.TheVariants as coding
use Rattle.af_sound.specs.Fields.{IsBig, IsLittle, IsLittle16, length_of, has_shape}
use Rattle.af_sound.specs.Au.{IsAuHead, StatesAu, au_coding}
use Rattle.af_sound.specs.Wave.{Chunk, IsBeforeFormat, IsAfterFormat, IsFormat, IsWaveHead, StatesFormat, wave_coding}
use Rattle.af_sound.specs.Written.{IsWritableHead, IsStatable, au_bytes, wave_bytes, size_of, encoding_of, is_written, big_bytes, little_bytes, little16_bytes, tag_of, sample_size, frame_size, riff_size}

big_is : (number : ℕ) → number < 2 ^ 32 → IsBig number (big_bytes number)
big_is number low = record { size = refl; is = from_be_bytes-to_be_bytes_4 number low }

low_shape : (channels : ℕ) → IsTrue (has_shape channels) → channels < 2 ^ 16
low_shape channels shape = grind (arith, nat_tests)

low_size : (length : Option ℕ) → IsStatable length → size_of length < 2 ^ 32
low_size (Some n) low = omega (arith, low)
low_size None low = lit< tt

stated_again : (length : Option ℕ) → IsStatable length → length ≡ length_of (size_of length)
stated_again (Some n) low = grind (arith, nat_tests)
stated_again None low = refl

au_coding_again : (c : Coding) → IsTrue (is_written Au c) → au_coding (encoding_of c) ≡ Some c
au_coding_again coding.Mu255 good = refl
au_coding_again coding.Alaw good = refl
au_coding_again coding.Lin16Big good = refl
au_coding_again coding.Lin16Little good = absurd cc
au_coding_again coding.U8 good = absurd cc

low_numbers : (c : Coding) → (encoding_of c < 2 ^ 16) × (tag_of c < 2 ^ 16) × (sample_size c * 8 < 2 ^ 16)
low_numbers coding.Mu255 = (lit< tt, lit< tt, lit< tt)
low_numbers coding.Alaw = (lit< tt, lit< tt, lit< tt)
low_numbers coding.Lin16Big = (lit< tt, lit< tt, lit< tt)
low_numbers coding.Lin16Little = (lit< tt, lit< tt, lit< tt)
low_numbers coding.U8 = (lit< tt, lit< tt, lit< tt)

pub au_written : (head : SoundHead) (bytes : List ℕ) → bytes ≡ au_bytes head → IsWritableHead Au head → head.rate < 2 ^ 32 → IsAuHead bytes head
unfolding au_bytes
au_written head bytes is writable rate =
    let channels : head.channels < 2 ^ 32 = omega (arith, low_shape head.channels writable.shape) in
    let states : StatesAu 24 (size_of head.length) (encoding_of head.coding) head.rate head.channels bytes = record {
      offset_field = big_bytes 24;
      size_field = big_bytes (size_of head.length);
      encoding_field = big_bytes (encoding_of head.coding);
      rate_field = big_bytes head.rate;
      channels_field = big_bytes head.channels;
      is = is;
      is_offset = big_is 24 (lit< tt);
      is_size = big_is (size_of head.length) (low_size head.length writable.length);
      is_encoding = big_is (encoding_of head.coding) (let low = (low_numbers head.coding).0 in omega arith);
      is_rate = big_is head.rate rate;
      is_channels = big_is head.channels channels;
    } in
    record {
      offset = 24;
      size = size_of head.length;
      encoding = encoding_of head.coding;
      numbers = bytes;
      annotation = [];
      is = sym (append-nil bytes);
      states = states;
      is_offset = refl;
      is_length = stated_again head.length writable.length;
      is_coding = au_coding_again head.coding writable.coding;
      is_shape = writable.shape;
    }

little_is : (number : ℕ) → number < 2 ^ 32 → IsLittle number (little_bytes number)
little_is number low = record { size = refl; is = from_le_bytes-to_le_bytes_4 number low }

little16_is : (number : ℕ) → number < 2 ^ 16 → IsLittle16 number (little16_bytes number)
little16_is number low = record { size = refl; is = from_le_bytes-to_le_bytes_2 number low }

wave_coding_again : (c : Coding) → IsTrue (is_written Wave c) → wave_coding (tag_of c) (sample_size c * 8) ≡ Some c
wave_coding_again coding.Mu255 good = refl
wave_coding_again coding.Alaw good = refl
wave_coding_again coding.Lin16Big good = absurd cc
wave_coding_again coding.Lin16Little good = refl
wave_coding_again coding.U8 good = absurd cc

-- the sixteen bytes of `fmt `
sixteen : SoundHead → List ℕ
sixteen head =
    little16_bytes (tag_of head.coding) ++ (little16_bytes head.channels ++ (little_bytes head.rate
    ++ ((little_bytes (head.rate * frame_size head % 2 ^ 32) ++ little16_bytes (frame_size head)) ++ little16_bytes (sample_size head.coding * 8))))

format : SoundHead → Chunk
format head = record { name = codes "fmt "; size = little_bytes 16; body = sixteen head; pad = [] }

format_is : (head : SoundHead) → IsWritableHead Wave head → head.rate < 2 ^ 32 → IsFormat head.coding head.rate head.channels (format head)
unfolding format sixteen
format_is head writable rate =
    let states : StatesFormat (tag_of head.coding) head.channels head.rate (sample_size head.coding * 8) (sixteen head) = record {
      tag_field = little16_bytes (tag_of head.coding);
      channels_field = little16_bytes head.channels;
      rate_field = little_bytes head.rate;
      ignored = little_bytes (head.rate * frame_size head % 2 ^ 32) ++ little16_bytes (frame_size head);
      bits_field = little16_bytes (sample_size head.coding * 8);
      is = refl;
      is_tag = little16_is (tag_of head.coding) (low_numbers head.coding).1;
      is_channels = little16_is head.channels (low_shape head.channels writable.shape);
      is_rate = little_is head.rate rate;
      is_ignored = refl;
      is_bits = little16_is (sample_size head.coding * 8) (low_numbers head.coding).2;
    } in
    record {
      is = record { is_name = refl; is_size = little_is 16 (lit< tt); is_pad = refl };
      name = refl;
      front = sixteen head;
      more = [];
      is_body = sym (append-nil (sixteen head));
      tag = tag_of head.coding;
      bits = sample_size head.coding * 8;
      states = states;
      is_coding = wave_coding_again head.coding writable.coding;
      is_shape = writable.shape;
    }

before_is : (head : SoundHead) → IsBeforeFormat (codes "RIFF" ++ (little_bytes (riff_size head.length) ++ codes "WAVE"))
before_is head = record {
  riff = codes "RIFF" ++ (little_bytes (riff_size head.length) ++ codes "WAVE");
  chunks = [];
  is = sym (append-nil (codes "RIFF" ++ (little_bytes (riff_size head.length) ++ codes "WAVE")));
  is_riff = record { size = little_bytes (riff_size head.length); is = refl; is_size = refl };
  others = tt;
}

after_is : (head : SoundHead) → IsWritableHead Wave head → head.rate < 2 ^ 32 →
    IsAfterFormat head.coding head.rate head.channels
    ((codes "RIFF" ++ (little_bytes (riff_size head.length) ++ codes "WAVE")) ++ (codes "fmt " ++ (little_bytes 16 ++ sixteen head)))
unfolding format sixteen
after_is head writable rate = record {
  before = codes "RIFF" ++ (little_bytes (riff_size head.length) ++ codes "WAVE");
  format = format head;
  after = [];
  is = refl;
  is_before = before_is head;
  is_format = format_is head writable rate;
  others = tt;
}

pub wave_written : (head : SoundHead) (bytes : List ℕ) → bytes ≡ wave_bytes head → IsWritableHead Wave head → head.rate < 2 ^ 32 → IsWaveHead bytes head
unfolding wave_bytes sixteen
wave_written head bytes is writable rate = record {
  front = (codes "RIFF" ++ (little_bytes (riff_size head.length) ++ codes "WAVE")) ++ (codes "fmt " ++ (little_bytes 16 ++ sixteen head));
  size_field = little_bytes (size_of head.length);
  size = size_of head.length;
  is = is;
  is_front = after_is head writable rate;
  is_size = little_is (size_of head.length) (low_size head.length writable.length);
  is_length = stated_again head.length writable.length;
}
