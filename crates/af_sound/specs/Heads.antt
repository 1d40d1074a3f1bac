-- Headers of sound files, and where bytes show that they are none.
use Rattle.std.specs.Prelude.{ℕ, List}
use Rattle.af_sound.specs.declared.head.SoundForm.{SoundForm}
use Rattle.af_sound.specs.declared.head.SoundForm.TheVariants.{Au, Wave}
use Rattle.af_sound.specs.declared.head.SoundHead.{SoundHead}
use Rattle.af_sound.specs.declared.head.SoundFault.{SoundFault}
use Rattle.af_sound.specs.Au.{IsAuHead, HasAuFault}
use Rattle.af_sound.specs.Wave.{IsWaveHead, HasWaveFault}

-- the bytes are the whole of a sound file's header
abbrev pub IsHead : SoundForm → List ℕ → SoundHead → Type 0
IsHead Au bytes head = IsAuHead bytes head
IsHead Wave bytes head = IsWaveHead bytes head

-- the bytes end where the first fault of a header shows
abbrev pub HasFault : SoundForm → List ℕ → SoundFault → Type 0
HasFault Au bytes fault = HasAuFault bytes fault
HasFault Wave bytes fault = HasWaveFault bytes fault
