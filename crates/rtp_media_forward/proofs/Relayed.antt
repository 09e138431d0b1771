-- Parts of streams that are sent on.
use Rattle.std.proofs.Common.{◌≡◌, ℕ, zero, suc, ◌+◌, ◌<◌, refl, sym, ◌∙◌, ap, ap₂, arith}
use Rattle.std.proofs.Common.{List, [], ◌∷◌, ◌++◌, length, map, length-append}
use Rattle.std.proofs.lemmas.Grind.{flat_map-append}
use Rattle.std.specs.Prelude.{slice_index_or}
use Rattle.payload_core_base.specs.Format.{Format}
use Rattle.payload_core_base.specs.Packing.{MarkedPacket}
use Rattle.rtp_wire.specs.declared.values.ExtensionValues.{ExtensionValues}
use Rattle.rtp_media_schedules.specs.Hearing.{Content, content_of}
use Rattle.rtp_media_schedules.specs.Samples.{AreSentAs, SentSample, contents_by, datagrams, packets_of}
use Rattle.rtp_media_schedules.specs.Sending.{no_content}
use Rattle.rtp_media_forward.specs.Forwarding.{shifted}
use Rattle.rtp_media_forward.specs.Relayed.{AreRead, Part, count_in, count_of, relayed, relayed_content}
use Rattle.rtp_media_forward.specs.Relayed.{relayed_sample, relayed_samples}

-- packets and units stay
pub same-packets : (values : ExtensionValues → ExtensionValues) (shift : ℕ) (ss : List SentSample)
    → packets_of (map (relayed_sample values shift) ss) ≡ packets_of ss
same-packets values shift [] = refl
same-packets values shift (s ∷ ss) = ap (λ (ps : List MarkedPacket). s.packets ++ ps) (same-packets values shift ss)

pub same-read : (format : Format) (values : ExtensionValues → ExtensionValues) (shift : ℕ) (ss : List SentSample)
    → AreSentAs format ss → AreSentAs format (map (relayed_sample values shift) ss)
same-read format values shift [] are = tt
same-read format values shift (s ∷ ss) are = (are.0, same-read format values shift ss are.1)

read-append : (format : Format) (ss ts : List SentSample) → AreSentAs format ss → AreSentAs format ts
    → AreSentAs format (ss ++ ts)
read-append format [] ts a b = b
read-append format (s ∷ ss) ts a b = (a.0, read-append format ss ts a.1 b)

pub are-sent : (format : Format) (values : ExtensionValues → ExtensionValues) (parts : List Part)
    → AreRead format parts → AreSentAs format (relayed values parts)
are-sent format values [] are = tt
are-sent format values (p ∷ ps) are =
    read-append format (relayed_samples values p) (relayed values ps) (same-read format values p.shift p.samples are.0)
    (are-sent format values ps are.1)

pub count-is : (values : ExtensionValues → ExtensionValues) (parts : List Part)
    → length (packets_of (relayed values parts)) ≡ count_of parts
count-is values [] = refl
count-is values (p ∷ ps) =
    ap length (flat_map-append (λ (s : SentSample). s.packets) (relayed_samples values p) (relayed values ps))
    ∙ length-append (packets_of (relayed_samples values p)) (packets_of (relayed values ps))
    ∙ ap₂ (λ (m n : ℕ). m + n) (ap length (same-packets values p.shift p.samples)) (count-is values ps)

-- what is brought is what the source's datagrams bring, as it is sent on
contents-relayed : (values : ExtensionValues → ExtensionValues) (shift time : ℕ) (v : ExtensionValues)
    (ps : List MarkedPacket) → contents_by (shifted shift time) (values v) ps
    ≡ map (relayed_content values shift) (contents_by time v ps)
contents-relayed values shift time v [] = refl
contents-relayed values shift time v (p ∷ ps) =
    ap (λ (cs : List Content). content_of (shifted shift time) p.marker (values v) p.payload ∷ cs)
    (contents-relayed values shift time v ps)

map-on : (f : Content → Content) (xs ys : List Content) → map f (xs ++ ys) ≡ map f xs ++ map f ys
map-on f [] ys = refl
map-on f (x ∷ xs) ys = ap (λ (zs : List Content). f x ∷ zs) (map-on f xs ys)

pub brought : (values : ExtensionValues → ExtensionValues) (shift : ℕ) (ss : List SentSample)
    → datagrams (map (relayed_sample values shift) ss) ≡ map (relayed_content values shift) (datagrams ss)
brought values shift [] = refl
brought values shift (s ∷ ss) =
    ap₂ (λ (xs ys : List Content). xs ++ ys) (contents-relayed values shift s.time s.values s.packets)
    (brought values shift ss)
    ∙ sym (map-on (relayed_content values shift) (contents_by s.time s.values s.packets) (datagrams ss))

length-contents : (time : ℕ) (v : ExtensionValues) (ps : List MarkedPacket) → length (contents_by time v ps)
    ≡ length ps
length-contents time v [] = refl
length-contents time v (p ∷ ps) = ap suc (length-contents time v ps)

length-datagrams : (ss : List SentSample) → length (datagrams ss) ≡ length (packets_of ss)
length-datagrams [] = refl
length-datagrams (s ∷ ss) =
    length-append (contents_by s.time s.values s.packets) (datagrams ss)
    ∙ ap₂ (λ (m n : ℕ). m + n) (length-contents s.time s.values s.packets) (length-datagrams ss)
    ∙ sym (length-append s.packets (packets_of ss))

-- places in lists that are joined
at-map : (f : Content → Content) (cs : List Content) (i : ℕ) → i < length cs
    → slice_index_or (map f cs) i no_content ≡ f (slice_index_or cs i no_content)
at-map f [] i lt = absurd (omega arith)
at-map f (c ∷ cs) zero lt = refl
at-map f (c ∷ cs) (suc i) lt = at-map f cs i (omega arith)

at-front : (cs ds : List Content) (i : ℕ) → i < length cs
    → slice_index_or (cs ++ ds) i no_content ≡ slice_index_or cs i no_content
at-front [] ds i lt = absurd (omega arith)
at-front (c ∷ cs) ds zero lt = refl
at-front (c ∷ cs) ds (suc i) lt = at-front cs ds i (omega arith)

at-behind : (cs ds : List Content) (i : ℕ)
    → slice_index_or (cs ++ ds) (length cs + i) no_content ≡ slice_index_or ds i no_content
at-behind [] ds i =
    let e : 0 + i ≡ i = omega arith in
    ap (λ (k : ℕ). slice_index_or ds k no_content) e
at-behind (c ∷ cs) ds i =
    let e : suc (length cs) + i ≡ suc (length cs + i) = omega arith in
    ap (λ (k : ℕ). slice_index_or (c ∷ cs ++ ds) k no_content) e ∙ at-behind cs ds i

-- the i-th datagram of a part is the one so many after those of the parts before it
pub place-of : (values : ExtensionValues → ExtensionValues) (before later : List Part) (p : Part) (i : ℕ)
    → i < count_in p
    → slice_index_or (datagrams (relayed values (before ++ p ∷ later))) (count_of before + i) no_content
    ≡ relayed_content values p.shift (slice_index_or (datagrams p.samples) i no_content)
place-of values [] later p i lt =
    let own : List Content = datagrams (relayed_samples values p) in
    let few : i < length (datagrams p.samples) = omega (arith, lt, length-datagrams p.samples) in
    let same : own ≡ map (relayed_content values p.shift) (datagrams p.samples) = brought values p.shift p.samples in
    let none : 0 + i ≡ i = omega arith in
    ap₂ (λ (cs : List Content) (k : ℕ). slice_index_or cs k no_content)
    (flat_map-append (λ (s : SentSample). contents_by s.time s.values s.packets) (relayed_samples values p)
    (relayed values later)) none
    ∙ at-front own (datagrams (relayed values later)) i
    (omega (
      arith,
      lt,
      length-datagrams (relayed_samples values p),
      ap length (same-packets values p.shift p.samples),
    ))
    ∙ ap (λ (cs : List Content). slice_index_or cs i no_content) same
    ∙ at-map (relayed_content values p.shift) (datagrams p.samples) i few
place-of values (q ∷ qs) later p i lt =
    let own : List Content = datagrams (relayed_samples values q) in
    let rest : List Content = datagrams (relayed values (qs ++ p ∷ later)) in
    let many : count_in q + count_of qs + i ≡ length own + (count_of qs + i) =
    omega (arith, length-datagrams (relayed_samples values q), ap length (same-packets values q.shift q.samples)) in
    ap₂ (λ (cs : List Content) (k : ℕ). slice_index_or cs k no_content)
    (flat_map-append (λ (s : SentSample). contents_by s.time s.values s.packets) (relayed_samples values q)
    (relayed values (qs ++ p ∷ later))) many
    ∙ at-behind own rest (count_of qs + i) ∙ place-of values qs later p i lt
