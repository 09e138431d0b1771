-- Lines `a=simulcast` are read as they are printed (RFC 8853 5.1).
use Rattle.std.proofs.Common.{◌≡◌, ◌<◌, ℕ, Bool, true, false, cond, List, [], ◌∷◌, ◌++◌, Some, None}
use Rattle.std.proofs.Common.{codes, map, refl, sym, ◌∙◌, ap, append_assoc, arith, lit<}
use Rattle.std.specs.Option.{option_map}
use Rattle.std.proofs.lemmas.Bool.Decides.{nat_tests}
use Rattle.sdp_formats_grammar.specs.Bind.{◌>>=◌}
use Rattle.sdp_formats_grammar.specs.Cuts.{other_byte, parts-whole}
use Rattle.sdp_formats_grammar.specs.Form.{cut_maybe, each, passed, told}
use Rattle.sdp_formats_grammar.specs.Joined.{joined}
use Rattle.sdp_formats_grammar.specs.Pieces.{head}
use Rattle.sdp_formats_grammar.specs.Split.{Lacks, behind}
use Rattle.sdp_formats_reader.specs.AttributesChoice.{attribute_line}
use Rattle.sdp_formats_reader.specs.AttributesChoice.{media_attribute}
use Rattle.sdp_formats_reader.specs.Rids.{way}
use Rattle.sdp_formats_reader.specs.Simulcasts.{direction_layers, first_layer, grouped, groups, is_other, layer}
use Rattle.sdp_formats_reader.specs.Simulcasts.{make_id, make_layer, make_way, other_layers}
use Rattle.sdp_formats_reader.specs.Simulcasts.{sent, simulcast, untilded}
use Rattle.sdp_formats_values.specs.PrintedValues.{is_empty, layer_text, layers_text, line_end, name_of, simulcast_text}
use Rattle.sdp_formats_values.specs.PrintedValues.{ways_text}
use Rattle.sdp_formats_data.specs.PrintedMedia.{attribute_text}
use Rattle.sdp_formats_data.specs.declared.media.MediaAttribute.TheVariants.{Simulcast}
use Rattle.sdp_formats_values.specs.declared.streams.RidDirection.TheVariants.{Send, Recv}
use Rattle.sdp_formats_values.specs.declared.streams.Simulcast as ways
use Rattle.sdp_formats_values.specs.declared.streams.SimulcastLayer.{SimulcastLayer}
use Rattle.sdp_formats_laws.proofs.CandidatesLemmas.{lacks_above}
use Rattle.sdp_formats_laws.proofs.PlainKinds.{first_fits, lacks_two}
use Rattle.sdp_formats_laws.proofs.Printed.{IsPrintedAs, at_text, named_by, named_line, lacks, lacks_both}
use Rattle.sdp_formats_laws.proofs.Readings.{AreRead, cut_reads, cut_nowhere, cut_somewhere, list_reads}
use Rattle.sdp_formats_laws.proofs.Restrictions.{name_reads}
use Rattle.sdp_formats_laws.specs.Printable.{AreLayers, AreWays, IsName}

no_tilde : (t : List ℕ) → Lacks 126 t → behind (codes "~") t ≡ None
no_tilde [] h = refl
no_tilde (b ∷ t) h = other_byte b 126 _ _ h.0

named_layer : (t : List ℕ) (active : Bool) → IsName t
    → layer (name_of active t) ≡ Some (make_layer (make_id active t))
named_layer t true h =
    ap (λ o. option_map make_layer (untilded t o)) (no_tilde t h.tilde)
    ∙ ap (λ o. option_map make_layer (option_map (make_id true) o)) (name_reads t h)
named_layer t false h = ap (λ o. option_map make_layer (option_map (make_id false) o)) (name_reads t h)

lacks_name : (b : ℕ) (t : List ℕ) (active : Bool) → (126 ≡ b → ⊥) → Lacks b t → Lacks b (name_of active t)
lacks_name b t true other h = h
lacks_name b t false other h = (other, h)

layer_read : (l : SimulcastLayer) → IsName l.restriction_id.0 → l.attributes ≡ None
    → first_layer (layer_text l) ≡ Some l
layer_read l h none =
    ap (λ ts. each layer ts >>= head)
    (parts-whole 44 (layer_text l) (lacks_name 44 l.restriction_id.0 l.restriction_id.1 (λ e. cc) h.comma))
    ∙ ap (λ o. (o >>= λ a. Some (a ∷ [])) >>= head) (named_layer l.restriction_id.0 l.restriction_id.1 h)
    ∙ (λ i. Some (record { restriction_id = l.restriction_id; attributes = sym none i }))

-- its name lacks the sign between layers
layer_lacks : (l : SimulcastLayer) → IsName l.restriction_id.0 → Lacks 59 (layer_text l)
layer_lacks l h = lacks_name 59 l.restriction_id.0 l.restriction_id.1 (λ e. cc) h.semicolon

layers_read : (ls : List SimulcastLayer) → AreLayers ls → AreRead 59 first_layer layer_text ls
layers_read [] h = tt
layers_read (l ∷ ls) h = (layer_lacks l h.0.0, layer_read l h.0.0 h.0.1, layers_read ls h.1)

abbrev pub names_text : List SimulcastLayer → List ℕ
names_text ls = joined (codes ";") (map layer_text ls)

groups_read : (l : SimulcastLayer) (ls : List SimulcastLayer) → AreLayers (l ∷ ls)
    → groups.reads (names_text (l ∷ ls)) ≡ Some (l ∷ ls)
groups_read l ls h = list_reads 59 first_layer layer_text l ls (layers_read (l ∷ ls) h)

lacks_layers : (b : ℕ) (l : SimulcastLayer) (ls : List SimulcastLayer) → (126 ≡ b → ⊥) → (59 ≡ b → ⊥)
    → ((t : List ℕ) → IsName t → Lacks b t) → AreLayers (l ∷ ls) → Lacks b (names_text (l ∷ ls))
lacks_layers b l [] tilde semi name h =
    lacks_both b (layer_text l) []
    (lacks_name b l.restriction_id.0 l.restriction_id.1 tilde (name l.restriction_id.0 h.0.0)) tt
lacks_layers b l (k ∷ ks) tilde semi name h =
    lacks_two b 59 (layer_text l) (names_text (k ∷ ks))
    (lacks_name b l.restriction_id.0 l.restriction_id.1 tilde (name l.restriction_id.0 h.0.0)) semi
    (lacks_layers b k ks tilde semi name h.1)

-- the line, one way and both

some_there : {A : Type 0} (x : A) (xs : List A) → is_empty (x ∷ xs) ≡ false
some_there x xs = grind (arith, nat_tests)

abbrev pub body_text : List SimulcastLayer → List SimulcastLayer → List ℕ
body_text [] rs = codes "recv" ++ 32 ∷ names_text rs
body_text (s ∷ ss) [] = codes "send" ++ 32 ∷ names_text (s ∷ ss)
body_text (s ∷ ss) (r ∷ rs) = codes "send" ++ 32 ∷ (names_text (s ∷ ss) ++ 32 ∷ (codes "recv" ++ 32 ∷ names_text
    (r ∷ rs)))

abbrev pub both_ways : List SimulcastLayer → List SimulcastLayer → ways.Simulcast
both_ways send recv = record { send = grouped send; recv = grouped recv; is_munged = false }

lacks_blank : (l : SimulcastLayer) (ls : List SimulcastLayer) → AreLayers (l ∷ ls) → Lacks 32 (names_text (l ∷ ls))
lacks_blank l ls h = lacks_layers 32 l ls (λ e. cc) (λ e. cc) (λ t n. n.word.1) h

body_read : (send recv : List SimulcastLayer) → AreWays send recv
    → simulcast.reads (body_text send recv) ≡ Some (both_ways send recv)
body_read [] [] h = absurd h
body_read [] (r ∷ rs) h =
    ap (λ o. option_map (λ x. sent x.0 x.1.0 (other_layers x.1.1)) (o >>= passed (λ x. is_other x.0 x.1.1)))
    (cut_reads 32 (told way) (cut_maybe 32 groups direction_layers) (codes "recv") (names_text (r ∷ rs)) Recv
    (r ∷ rs, None) (lacks 32 (codes "recv") refl) refl
    (cut_nowhere 32 groups direction_layers (names_text (r ∷ rs)) (r ∷ rs)
    (lacks_blank r rs h) (groups_read r rs h)))
body_read (s ∷ ss) [] h =
    ap (λ o. option_map (λ x. sent x.0 x.1.0 (other_layers x.1.1)) (o >>= passed (λ x. is_other x.0 x.1.1)))
    (cut_reads 32 (told way) (cut_maybe 32 groups direction_layers) (codes "send") (names_text (s ∷ ss)) Send
    (s ∷ ss, None) (lacks 32 (codes "send") refl) refl
    (cut_nowhere 32 groups direction_layers (names_text (s ∷ ss)) (s ∷ ss)
    (lacks_blank s ss h.0) (groups_read s ss h.0)))
body_read (s ∷ ss) (r ∷ rs) h =
    ap (λ o. option_map (λ x. sent x.0 x.1.0 (other_layers x.1.1)) (o >>= passed (λ x. is_other x.0 x.1.1)))
    (cut_reads 32 (told way) (cut_maybe 32 groups direction_layers) (codes "send")
    (names_text (s ∷ ss) ++ 32 ∷ (codes "recv" ++ 32 ∷ names_text (r ∷ rs))) Send
    (s ∷ ss, Some (make_way (Recv, r ∷ rs))) (lacks 32 (codes "send") refl) refl
    (cut_somewhere 32 groups direction_layers (names_text (s ∷ ss)) (codes "recv" ++ 32 ∷ names_text (r ∷ rs)) (s ∷ ss)
    (make_way (Recv, r ∷ rs)) (lacks_blank s ss h.0) (groups_read s ss h.0)
    (ap (option_map make_way)
    (cut_reads 32 (told way) groups (codes "recv") (names_text (r ∷ rs)) Recv (r ∷ rs) (lacks 32
    (codes "recv") refl) refl
    (groups_read r rs h.1)))))

lacks_body : (b : ℕ) (send recv : List SimulcastLayer) → b < 32 → ((t : List ℕ) → IsName t → Lacks b t)
    → AreWays send recv → Lacks b (body_text send recv)
lacks_body b [] [] low name h = absurd h
lacks_body b [] (r ∷ rs) low name h =
    lacks_both b (codes "recv ") (names_text (r ∷ rs)) (lacks_above b (codes "recv ") low refl)
    (lacks_layers b r rs (λ e. omega (e, low, arith)) (λ e. omega (e, low, arith)) name h)
lacks_body b (s ∷ ss) [] low name h =
    lacks_both b (codes "send ") (names_text (s ∷ ss)) (lacks_above b (codes "send ") low refl)
    (lacks_layers b s ss (λ e. omega (e, low, arith)) (λ e. omega (e, low, arith)) name h.0)
lacks_body b (s ∷ ss) (r ∷ rs) low name h =
    lacks_both b (codes "send ") (names_text (s ∷ ss) ++ 32 ∷ (codes "recv" ++ 32 ∷ names_text (r ∷ rs)))
    (lacks_above b (codes "send ") low refl)
    (lacks_two b 32 (names_text (s ∷ ss)) (codes "recv" ++ 32 ∷ names_text (r ∷ rs))
    (lacks_layers b s ss (λ e. omega (e, low, arith)) (λ e. omega (e, low, arith)) name h.0)
    (λ e. omega (e, low, arith))
    (lacks_both b (codes "recv ") (names_text (r ∷ rs)) (lacks_above b (codes "recv ") low refl)
    (lacks_layers b r rs (λ e. omega (e, low, arith)) (λ e. omega (e, low, arith)) name h.1)))

both_shape : (send recv : List ℕ) → send ++ (codes " recv " ++ (recv ++ line_end))
    ≡ (send ++ 32 ∷ (codes "recv" ++ 32 ∷ recv)) ++ line_end
both_shape send recv = simp append_assoc

ways_shape : (send recv : List SimulcastLayer) → AreWays send recv
    → ways_text (is_empty send) (is_empty recv) (names_text send) (names_text recv)
    ≡ codes "a=simulcast:" ++ (body_text send recv ++ line_end)
ways_shape [] [] h = absurd h
ways_shape [] (r ∷ rs) h = ap (λ b. ways_text true b [] (names_text (r ∷ rs))) (some_there r rs)
ways_shape (s ∷ ss) [] h = ap (λ b. ways_text b true (names_text (s ∷ ss)) []) (some_there s ss)
ways_shape (s ∷ ss) (r ∷ rs) h =
    (λ i. ways_text (some_there s ss i) (some_there r rs i) (names_text (s ∷ ss)) (names_text (r ∷ rs)))
    ∙ ap (λ t. codes "a=simulcast:send " ++ t) (both_shape (names_text (s ∷ ss)) (names_text (r ∷ rs)))

pub simulcast_line : (s : ways.Simulcast) → s.is_munged ≡ false → AreWays s.send.0 s.recv.0
    → IsPrintedAs attribute_line (attribute_text (Simulcast s)) (Simulcast s)
unfolding media_attribute attribute_text simulcast_text
simulcast_line s munged h = at_text attribute_line _ _ _
    (ap (λ b. cond b [] (ways_text (is_empty s.send.0) (is_empty s.recv.0) (layers_text s.send) (layers_text s.recv)))
    munged ∙ ways_shape s.send.0 s.recv.0 h)
    (named_line attribute_line (codes "a=simulcast:") (body_text s.send.0 s.recv.0) (Simulcast s)
    (named_by (codes "a=simulcast:") refl)
    (lacks_body 10 s.send.0 s.recv.0 (lit< tt) (λ t n. n.word.0.1) h)
    (lacks_body 13 s.send.0 s.recv.0 (lit< tt) (λ t n. n.word.0.2) h)
    (first_fits _ _ _ (ap (option_map Simulcast) (body_read s.send.0 s.recv.0 h)
    ∙ (λ i. Some (Simulcast (record { send = s.send; recv = s.recv; is_munged = sym munged i }))))))
