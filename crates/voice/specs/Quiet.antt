-- Why a voice is quiet in the next frame: the first true cause, in the paper's order.
-- Assumes nothing.
use Rattle.std.specs.Prelude.{ℕ, Bool, cond, ◌||◌, List, ◌==◌, nat_lt, slice_index}
use Rattle.voice.specs.declared.quiet.Cause.{Cause}
use Rattle.voice.specs.declared.quiet.Cause.TheVariants.{NoSample, NoPeriod, Stopped, NoVolume, ZeroByte, Sounds}
use Rattle.voice.specs.declared.Voice.{Voice}

-- byte reads 0, as bytes 0 and 1 of each sample do
unfoldable pub reads_zero : List ℕ → ℕ → Bool
reads_zero bytes i = nat_lt i 2 || slice_index bytes i == 0

-- no sounding sample, period 0, voice stopped, volume 0, byte reads 0, or "it sounds"
unfoldable pub cause_of : List ℕ → Voice → Cause
cause_of bytes v =
    cond (v.sample == 0) NoSample
    (cond (v.period == 0) NoPeriod
    (cond v.stopped Stopped
    (cond (v.volume == 0) NoVolume
    (cond (reads_zero bytes v.index) ZeroByte
    Sounds))))

-- each cause's number
abbrev pub cause_number : Cause → ℕ
cause_number NoSample = 1
cause_number NoPeriod = 2
cause_number Stopped = 3
cause_number NoVolume = 4
cause_number ZeroByte = 5
cause_number Sounds = 6
