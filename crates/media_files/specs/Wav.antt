-- WAVE files of one channel (RIFF, WAVEFORMATEX).
use Rattle.std.specs.Prelude.{ℕ, ◌+◌, ◌*◌, ◌%◌, ◌==◌, List, [], ◌∷◌, ◌++◌, length, codes, if◌then◌else◌}
use Rattle.std.specs.List.{flat_map}
use Rattle.media_files_captures.specs.Numbers.{u16_le, u32_le}
use Rattle.media_files.specs.declared.wav.WavCodec.{WavCodec}
use Rattle.media_files.specs.declared.wav.WavCodec.TheVariants.{Pcmu, Pcma, G722}

-- The format tag, the sample rate, the bits per sample, the samples per byte.
abbrev pub tag_of : WavCodec → ℕ
tag_of Pcmu = 7
tag_of Pcma = 6
tag_of G722 = 0x028f

abbrev pub rate_of : WavCodec → ℕ
rate_of Pcmu = 8000
rate_of Pcma = 8000
rate_of G722 = 16000

abbrev pub bits_of : WavCodec → ℕ
bits_of Pcmu = 8
bits_of Pcma = 8
bits_of G722 = 4

abbrev pub samples_of : WavCodec → ℕ → ℕ
samples_of Pcmu n = n
samples_of Pcma n = n
samples_of G722 n = 2 * n

-- A chunk of odd length is padded with one byte.
abbrev pub padding : ℕ → List ℕ
padding n = if n % 2 == 0 then [] else 0 ∷ []

-- The chunk of the format: tag, one channel, samples a second, 8,000 bytes a second, blocks of a byte, bits, no more.
unfoldable pub format_chunk : WavCodec → List ℕ
format_chunk c = codes "fmt " ++ (u32_le 18 ++ (u16_le (tag_of c) ++ u16_le 1))

unfoldable pub format_rates : WavCodec → List ℕ
format_rates c = u32_le (rate_of c) ++ (u32_le 8000 ++ (u16_le 1 ++ (u16_le (bits_of c) ++ u16_le 0)))

-- The chunk that says how many samples there are.
unfoldable pub fact_chunk : WavCodec → ℕ → List ℕ
fact_chunk c n = codes "fact" ++ (u32_le 4 ++ u32_le (samples_of c n))

-- The RIFF header: its length counts everything after the first eight bytes.
unfoldable pub riff_front : ℕ → List ℕ
riff_front n = codes "RIFF" ++ (u32_le (50 + n + n % 2) ++ codes "WAVE")

unfoldable pub data_front : ℕ → List ℕ
data_front n = codes "data" ++ u32_le n

-- What is in front of this many bytes.
unfoldable pub wav_front : WavCodec → ℕ → List ℕ
wav_front c n = riff_front n ++ (format_chunk c ++ (format_rates c ++ (fact_chunk c n ++ data_front n)))

-- The file of these bytes.
unfoldable pub wav_file : WavCodec → List ℕ → List ℕ
wav_file c bytes = wav_front c (length bytes) ++ (bytes ++ padding (length bytes))

-- The bytes of packets one after the other.
abbrev pub joined : List (List ℕ) → List ℕ
joined packets = flat_map (λ p. p) packets
