-- A run of values is one, and so are the packets of a file.
use Rattle.std.proofs.Common.{◌≡◌, ℕ, List, [], ◌∷◌, Option, Some, None, refl, sym, ap, ◌∙◌, subst, drop}
use Rattle.std.specs.List.{flat_map}
use Rattle.std.specs.Option.{option_to_list}
use Rattle.media_files_captures.specs.Runs.{Holds, HoldsAll}
use Rattle.media_files_captures.specs.Captures.{Packet}
use Rattle.media_files_captures.specs.HexLines.{Datagram, IsHexText, hex_line}
use Rattle.media_files_captures.specs.Pcap.{IsPcap, pcap_record}
use Rattle.media_files_captures.specs.Pcapng.{IsPcapng, Block, Reader, block, packets_of, reader}
use Rattle.media_files_captures.specs.Rtpdump.{Datagram as Dumped, IsRtpdump, rtpdump_record}
use Rattle.media_files_captures.specs.declared.pcap.PcapHeader.{PcapHeader}
use Rattle.media_files_captures.specs.declared.numbers.ByteOrder.TheVariants.{Big}

-- what is read once is read again
first-same : {A S : Type 0} (o : Option (A × S)) (a b : A) (m n : S) → o ≡ Some (a, m) → o ≡ Some (b, n)
    → (a ≡ b) × (m ≡ n)
first-same {A} {S} o a b m n one other =
    let pair : ◌≡◌ {A = A × S} (a, m) (b, n) = cc in
    (ap (λ (p : A × S). p.0) pair, ap (λ (p : A × S). p.1) pair)

pub Holds-unique : {A S : Type 0} (step : S → Option (A × S)) (from : S) (items others : List A) (rest left : S)
    → HoldsAll step from items rest → HoldsAll step from others left → (items ≡ others) × (rest ≡ left)
Holds-unique step from [] [] rest left one other = (refl, one.0 ∙ sym other.0)
Holds-unique {A} {S} step from [] (b ∷ others) rest left one other =
    let none : step from ≡ None = subst (λ (s : S). step s ≡ None) one.0 one.1 in
    let some : step from ≡ Some (b, other.0.0) = other.0.1 in
    absurd (cc)
Holds-unique {A} {S} step from (a ∷ items) [] rest left one other =
    let none : step from ≡ None = subst (λ (s : S). step s ≡ None) other.0 other.1 in
    let some : step from ≡ Some (a, one.0.0) = one.0.1 in
    absurd (cc)
Holds-unique {A} {S} step from (a ∷ items) (b ∷ others) rest left one other =
    let same = first-same (step from) a b one.0.0 other.0.0 one.0.1 other.0.1 in
    let held : Holds step one.0.0 others left = subst (λ (s : S). Holds step s others left) (sym same.1) other.0.2 in
    let more = Holds-unique step one.0.0 items others rest left (one.0.2, one.1) (held, other.1) in
    (cc (same.0, more.0), more.1)

pub pcap-unique : (file : List ℕ) (packets others : List Packet) (unread left : List ℕ) → IsPcap file packets unread
    → IsPcap file others left → (packets ≡ others) × (unread ≡ left)
pcap-unique file packets others unread left one other =
    let header : one.0 ≡ other.0 = cc (one.1, other.1) in
    let held : HoldsAll (pcap_record one.0) (drop 24 file) others left =
    subst (λ (h : PcapHeader). HoldsAll (pcap_record h) (drop 24 file) others left) (sym header) other.2 in
    Holds-unique (pcap_record one.0) (drop 24 file) packets others unread left one.2 held

pub pcapng-unique : (file : List ℕ) (packets others : List Packet) (unread left : List ℕ) → IsPcapng file packets unread
    → IsPcapng file others left → (packets ≡ others) × (unread ≡ left)
pcapng-unique file packets others unread left one other =
    let same = Holds-unique block (reader Big file) one.0 other.0 (reader one.1 unread) (reader other.1 left) one.2
    other.2 in
    (one.3 ∙ ap (λ (bs : List Block). packets_of [] bs) same.0 ∙ sym other.3, ap (λ (r : Reader). r.rest) same.1)

pub rtpdump-unique : (file : List ℕ) (datagrams others : List Dumped) (unread left : List ℕ)
    → IsRtpdump file datagrams unread → IsRtpdump file others left → (datagrams ≡ others) × (unread ≡ left)
rtpdump-unique file datagrams others unread left one other =
    let records : one.0 ≡ other.0 = cc (one.1, other.1) in
    let held : HoldsAll rtpdump_record one.0 others left =
    subst (λ (rs : List ℕ). HoldsAll rtpdump_record rs others left) (sym records) other.2 in
    Holds-unique rtpdump_record one.0 datagrams others unread left one.2 held

pub hex-unique : (text : List ℕ) (datagrams others : List Datagram) → IsHexText text datagrams → IsHexText text others
    → datagrams ≡ others
hex-unique text datagrams others one other =
    let same = Holds-unique hex_line text one.0 other.0 [] [] one.1 other.1 in
    one.2 ∙ ap (λ (ls : List (Option Datagram)). flat_map option_to_list ls) same.0 ∙ sym other.2
