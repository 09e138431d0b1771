-- A whole run under a tame schedule.
use Rattle.std.proofs.Common.{◌≡◌, ◌≢◌, ℕ, zero, suc, ◌+◌, ◌-◌, ◌%◌, ◌^◌, ◌<◌, ◌≤◌, refl, sym, ◌∙◌, ap, ap₂, subst}
use Rattle.std.proofs.Common.{arith, Bool, true, false, List, [], ◌∷◌, ◌++◌, length, map, drop, get_or, true≢false}
use Rattle.std.proofs.Common.{inl, inr, drop_at}
use Rattle.std.specs.Prelude.{Option, None, Some, Ok, filter, if◌then◌else◌}
use Rattle.std.specs.List.{range_with_len}
use Rattle.std.proofs.lemmas.Bool.Decides.{nat_tests}
use Rattle.std.proofs.lemmas.Bool.{cases_lt}
use Rattle.std.proofs.lemmas.List.Sums.{length-filter}
use Rattle.std.proofs.lemmas.List.{drop-map, length-map}
use Rattle.std.proofs.lemmas.List.FromFn.{length-range_with_len}
use Rattle.std.proofs.lemmas.List.Elements.{filter_agree}
use Rattle.payload_core_base.specs.Format.{Format, Fragment, Run}
use Rattle.payload_core_base.specs.Law.{IsFrameOf, joined}
use Rattle.payload_core_buffer.specs.Buffered.{Holding, held_with, is_done, pushed}
use Rattle.payload_core_buffer.specs.Frames.{IsFrame, due_frame, is_next, number_at, packets_between}
use Rattle.payload_core_buffer.specs.Packets.{Packet, metas_of}
use Rattle.payload_core_buffer.specs.declared.held.RtpMeta.{RtpMeta}
use Rattle.rtp_wire.specs.Replay.{Window, is_accepted, reach, reach_below, recorded_in}
use Rattle.rtp_media_schedules.specs.Hearing.{Content, packet_of}
use Rattle.payload_core_buffer.specs.Steps.{MediaUnit}
use Rattle.rtp_media_schedules.specs.Turns.{Turn, Arrive, Ask, Sender, event_of, is_among, IsGoodArrival, AllCame}
use Rattle.rtp_media_schedules.specs.Turns.{waiting}
use Rattle.rtp_media_schedules.proofs.Places.{packet, held_with-place, limited-few, length-filter-few}
use Rattle.rtp_media_schedules.proofs.Windows.{WindowIs, among-more, among-again, among-le-greatest, refused-again}
use Rattle.rtp_media_schedules.proofs.Windows.{accepted-first, IsWindowOf-more, IsWindowOf-first, IsWindowOf-again}
use Rattle.rtp_media_schedules.proofs.Windows.{widened-true}
use Rattle.rtp_media_schedules.specs.Hearing as hearing
use Rattle.rtp_media_schedules.specs.Hearing.{Stream, after_events, due, fresh, handed_out, heard}
use Rattle.payload_core_buffer.specs.Steps.{Answer, answer_among}
use Rattle.rtp_media_schedules.specs.Hearing.{poll_answer, polled, stream_behind, taken_by}
use Rattle.payload_core_buffer.specs.Steps.{run_among}
use Rattle.rtp_media_schedules.specs.Legal.{IsFinalRunOf}
use Rattle.rtp_media_schedules.specs.Orders.{IsGoodPoll, IsTame, first_size, has_come, left_after, next_after}
use Rattle.rtp_media_schedules.specs.Sending.{SentFrame, AreFrames, AreWhole, canonical, canonical_from, sender_of}
use Rattle.rtp_media_schedules.specs.Sending.{sizes, total, whole}
use Rattle.rtp_media_schedules.proofs.Frames.{Brings, GivesUnit, cutoff-behind, gives-unit}
use Rattle.rtp_media_schedules.proofs.Located.{AreBrought}
use Rattle.rtp_media_schedules.proofs.Ready.{Misses, all-pass, all-passed, Rises-filter, due-front, filter-come}
use Rattle.rtp_media_schedules.proofs.Ready.{filter-missing, filter-passes, front, misses, none-due, none-held}
use Rattle.rtp_media_schedules.proofs.Ready.{number-in}
use Rattle.rtp_media_schedules.proofs.Sane.{CutoffIs, due-is, poll_answer-is, polled-is, sender-brings}

-- the window refuses what came before and accepts the rest
again : (first : ℕ) (past : List ℕ) (w : Option Window) (x : ℕ) → WindowIs first past w → is_among past x ≡ true
    → is_accepted w x ≡ false
again first [] w x is came = absurd (true≢false (sym came))
again first (y ∷ ys) None x is came = absurd is
again first (y ∷ ys) (Some w) x is came = refused-again first (y ∷ ys) w x is came

anew : (first count : ℕ) (past : List ℕ) (w : Option Window) (x : ℕ) → WindowIs first past w
    → IsGoodArrival first count past x → is_among past x ≡ false → is_accepted w x ≡ true
anew first count [] None x is good new = refl
anew first count [] (Some w) x is good new = absurd is
anew first count (y ∷ ys) None x is good new = absurd is
anew first count (y ∷ ys) (Some w) x is good new = accepted-first first count (y ∷ ys) w x is good new

window-more : (first count : ℕ) (past : List ℕ) (w : Option Window) (x : ℕ) → WindowIs first past w
    → IsGoodArrival first count past x → WindowIs first (x ∷ past) (Some (recorded_in w x))
window-more first count [] None x is good = IsWindowOf-first first count x good
window-more first count [] (Some w) x is good = absurd is
window-more first count (y ∷ ys) None x is good = absurd is
window-more first count (y ∷ ys) (Some w) x is good = IsWindowOf-more first count (y ∷ ys) w x is good

window-again : (first : ℕ) (past : List ℕ) (w : Option Window) (x : ℕ) → WindowIs first past w → is_among past x
    ≡ true → WindowIs first (x ∷ past) w
window-again first [] w x is came = absurd (true≢false (sym came))
window-again first (y ∷ ys) None x is came = absurd is
window-again first (y ∷ ys) (Some w) x is came = IsWindowOf-again first (y ∷ ys) w x is came

-- what is out of reach of one that came, came
came-below : (first : ℕ) (past : List ℕ) (w : Option Window) (y z : ℕ) → WindowIs first past w → is_among past y ≡ true
    → first ≤ z → z + reach ≤ y → is_among past z ≡ true
came-below first [] w y z is came a b = absurd (true≢false (sym came))
came-below first (x ∷ xs) None y z is came a b = absurd is
came-below first (x ∷ xs) (Some w) y z is came a b =
    is.closed z a (omega (arith, is.greatest, among-le-greatest (x ∷ xs) y came))

-- the numbers from next on that came
abbrev pub numbers_of : ℕ → ℕ → List ℕ → ℕ → List ℕ
numbers_of first count past next = filter (is_among past) (range_with_len next (first + count - next))

-- a unit that begins with the first packet of a frame is all of it
pub whole-is : (m a : ℕ) (g : SentFrame) (metas : List RtpMeta) (run : Run) (given : GivesUnit m a g metas run) → a ≡ m
    → given.unit ≡ whole (canonical m g) given.unit.extra
whole-is m a g metas run given e =
    let first : given.unit.first ≡ m = given.begins ∙ e in
    let last : given.unit.last ≡ m + length g.packets - 1 = omega (arith, given.to_end) in
    let is : IsFinalRunOf (canonical m g) given.unit = given.is_final_run in
    let bytes : given.unit.bytes ≡ joined g.parts = is.bytes ∙ ap (λ k. joined (drop k g.parts)) (given.from_first e) in
    λ i. record {
      first = first i;
      last = last i;
      time = is.time i;
      values = is.values i;
      bytes = bytes i;
      extra =
          given.unit.extra;
    }

pub next-begins : (first next : ℕ) (cutoff : Option ℕ) → CutoffIs first next cutoff → is_next cutoff next ≡ true
next-begins first next None h = refl
next-begins first next (Some c) h = grind (arith, nat_tests)

module _ (format : Format) (sender : Sender) (first count opening : ℕ) (fits : first + count ≤ 2 ^ 62) where
  -- what the state is after these arrivals, and after all below next were handed out
  pub record IsReached (past : List ℕ) (next : ℕ) (left : List ℕ) (s : Stream) : Type 0 where
    pub window : WindowIs first past s.window
    pub held : s.held ≡ map (packet sender) (numbers_of first count past next)
    pub cutoff : CutoffIs first next s.cutoff
    pub unopened : s.cutoff ≡ None → first_size left ≡ opening
    pub closed : s.fragment ≡ None
    pub passed : (y : ℕ) → first ≤ y → y < next → is_among past y ≡ true
    pub from_first : first ≤ next
    pub within : (y : ℕ) → is_among past y ≡ true → y < first + count

  -- a number that came before changes nothing
  arrives-again : (past : List ℕ) (next : ℕ) (left : List ℕ) (s : Stream) (x : ℕ) → IsReached past next left s
      → is_among past x ≡ true → IsReached (x ∷ past) next left (taken_by s x (sender x))
  arrives-again past next left s x is came = rw (again first past s.window x is.window came) (record {
    window = window-again first past s.window x is.window came;
    held = is.held ∙ ap (map (packet sender)) (filter_agree _ _ (λ y. sym (among-again past x y came)) _);
    cutoff = is.cutoff;
    unopened = is.unopened;
    closed = is.closed;
    passed = λ y a b. among-more past x y (is.passed y a b);
    from_first = is.from_first;
    within = λ y h. is.within y (sym (among-again past x y came) ∙ h);
  })

  pub not_passed : (next x : ℕ) (cutoff : Option ℕ) → CutoffIs first next cutoff → next ≤ x → is_done cutoff x ≡ false
  not_passed next x None is h = refl
  not_passed next x (Some c) is h = grind (arith, nat_tests)

  arrives-anew : (past : List ℕ) (next : ℕ) (left : List ℕ) (s : Stream) (x : ℕ) → IsReached past next left s
      → IsGoodArrival first count past x → waiting first count (x ∷ past) next ≤ s.holding.held → is_among past x
      ≡ false
      → IsReached (x ∷ past) next left (taken_by s x (sender x))
  arrives-anew past next left s x is good few new =
      let ahead : next ≤ x = elim (cases_lt x next)
      [ inl below ↦ absurd (true≢false (sym (is.passed x good.from_first below) ∙ new)) | inr fine ↦ fine ] in
      let e : held_with (packet sender x) s.held ≡ map (packet sender) (numbers_of first count (x ∷ past) next) =
      rw is.held (held_with-place sender (is_among past) x next (first + count - next) ahead
      (omega (arith, good.before_end)) new) in
      let small : length (map (packet sender) (numbers_of first count (x ∷ past) next)) ≤ s.holding.held =
      simp (length-map, length-filter) few in
      let b : pushed s.holding.held s.cutoff s.held (packet sender x)
      ≡ map (packet sender) (numbers_of first count (x ∷ past) next) =
      rw (not_passed next x s.cutoff is.cutoff ahead, e)
      (limited-few s.holding.held (map (packet sender) (numbers_of first count (x ∷ past) next)) small) in
      rw (anew first count past s.window x is.window good new, b) (record {
        window = window-more first count past s.window x is.window good;
        held = refl;
        cutoff = is.cutoff;
        unopened = is.unopened;
        closed = is.closed;
        passed = λ y l u. among-more past x y (is.passed y l u);
        from_first = is.from_first;
        within = λ y h. grind (arith, nat_tests, is.within y, good.before_end);
      })

  pub arrives : (past : List ℕ) (next : ℕ) (left : List ℕ) (s : Stream) (x : ℕ) → IsReached past next left s
      → IsGoodArrival first count past x → waiting first count (x ∷ past) next ≤ s.holding.held
      → IsReached (x ∷ past) next left (taken_by s (hearing.number_at s (x % 65536)) (sender x))
  arrives past next left s x is good few =
      rw (widened-true first count past s.window x fits is.window good) (go (is_among past x) refl) where
        go : (b : Bool) → is_among past x ≡ b → IsReached (x ∷ past) next left (taken_by s x (sender x))
        go true e = arrives-again past next left s x is e
        go false e = arrives-anew past next left s x is good few e

  -- a poll if the next frame came
  module _ (past : List ℕ) (next : ℕ) (f : SentFrame) (fs : List SentFrame) (s : Stream)
      (is : IsReached past next (sizes (f ∷ fs)) s) (sent : Brings sender next f)
      (frame : IsFrameOf format f.packets f.parts)
      (same_end : next + total (sizes (f ∷ fs)) ≡ first + count) where
    abbrev size : ℕ
    size = length f.packets

    abbrev behind : List ℕ
    behind = numbers_of first count past (next + size)

    abbrev in_front : List Packet
    in_front = map (packet sender) (range_with_len next size ++ behind)

    module _ (came : has_come past next size ≡ true) where
      held-front : s.held ≡ in_front
      held-front =
          let n : first + count - next ≡ size + (first + count - (next + size)) = omega (arith, same_end) in
          is.held ∙ ap (map (packet sender)) (ap (λ k. filter (is_among past) (range_with_len next k)) n
          ∙ filter-come (is_among past) next size (first + count - (next + size)) came)

      pub due-next : due format s ≡ Some (front size)
      unfolding due
      due-next = ap (λ ps. due_frame format s.cutoff s.holding.hold_back ps) held-front
          ∙ due-front format sender next f sent frame behind s.cutoff s.holding.hold_back
          (next-begins first next s.cutoff is.cutoff)

      is-front : IsFrame format in_front (front size)
      is-front = subst (λ (ps : List Packet). IsFrame format ps (front size)) held-front
          (due-is format s (front size) due-next)

      begins-next : get_or (range_with_len next size ++ behind) 0 0 ≡ next
      begins-next = omega (arith, number-in format sender next f sent frame behind 0 frame.not_empty)

      low-next : next ≤ get_or (range_with_len next size ++ behind) 0 0
      low-next = omega (arith, begins-next)

      high-next : get_or (range_with_len next size ++ behind) 0 0 < next + size
      high-next = omega (arith, begins-next, frame.not_empty)

      pub given : GivesUnit next (get_or (range_with_len next size ++ behind) 0 0) f
          (metas_of (packets_between in_front (front size))) (run_among format None in_front (front size))
      given = gives-unit format sender next f sent frame (range_with_len next size ++ behind) (front size) is-front
          low-next high-next

      abbrev pub unit-next : MediaUnit
      unit-next = given.unit

      pub whole-next : unit-next ≡ whole (canonical next f) unit-next.extra
      whole-next = whole-is next _ f _ _ given begins-next

      pub answer-next : poll_answer format s ≡ Ok (Some unit-next)
      answer-next =
          poll_answer-is format s (Some (front size)) due-next
          ∙ ap₂ (λ (fragment : Fragment) (ps : List Packet). answer_among format fragment ps (Some (front size)))
          is.closed held-front
          ∙ given.answer

      closed-next : (run_among format s.fragment s.held (front size)).fragment ≡ None
      closed-next = ap₂ (λ (fragment : Fragment) (ps : List Packet).
          (run_among format fragment ps (front size)).fragment) is.closed held-front ∙ given.closed

      cutoff-next : number_at s.held (size - 1) + 1 ≡ next + size
      cutoff-next = ap (λ (ps : List Packet). number_at ps (size - 1) + 1) held-front
          ∙ cutoff-behind format sender next f sent frame (range_with_len next size ++ behind) (front size) is-front
          low-next high-next

      held-behind : drop size s.held ≡ map (packet sender) behind
      held-behind = ap (drop size) held-front ∙ drop-map (packet sender) size (range_with_len next size ++ behind)
          ∙ ap (map (packet sender)) (drop_at (range_with_len next size) behind size (length-range_with_len next size))

      came-each : (y : ℕ) → next ≤ y → y < next + size → is_among past y ≡ true
      came-each y a b = all-pass (is_among past) next size came y a b

      pub after-next : IsReached past (next + size) (sizes fs) (stream_behind format s (Some (front size)))
      after-next = record {
        window = is.window;
        held = held-behind;
        cutoff = cutoff-next;
        unopened = λ e. cc;
        closed = closed-next;
        passed = λ y a b. elim (cases_lt y next) [ inl before ↦ is.passed y a before | inr le ↦ came-each y le b ];
        from_first = omega (arith, is.from_first);
        within = is.within;
      }

  -- if a number is missing, fewer than the reach above it came
  few-above : (past : List ℕ) (x n : ℕ) (w : Option Window) → WindowIs first past w → first ≤ x → is_among past x
      ≡ false → length (filter (is_among past) (range_with_len (x + 1) n)) ≤ reach_below
  few-above past x n w is low missing = length-filter-few (is_among past) (x + 1) n reach_below none where
    none : (y : ℕ) → x + 1 + reach_below ≤ y → is_among past y ≡ false
    none y far = go (is_among past y) refl where
      go : (b : Bool) → is_among past y ≡ b → is_among past y ≡ false
      go true e = absurd (true≢false (sym (came-below first past w y x is e low (omega arith)) ∙ missing))
      go false e = e

  -- a poll if a packet of the next frame is missing
  module _ (past : List ℕ) (next : ℕ) (f : SentFrame) (fs : List SentFrame) (s : Stream)
      (is : IsReached past next (sizes (f ∷ fs)) s) (sent : Brings sender next f)
      (frame : IsFrameOf format f.packets f.parts)
      (same_end : next + total (sizes (f ∷ fs)) ≡ first + count)
      (good : IsGoodPoll first count s.holding.hold_back past opening)
      (lacks : has_come past next (length f.packets) ≡ false) where
    abbrev miss : Misses (is_among past) next (length f.packets)
    miss = misses (is_among past) next (length f.packets) lacks

    abbrev below_it : ℕ
    below_it = miss.number - next

    abbrev above_it : ℕ
    above_it = first + count - (miss.number + 1)

    abbrev lower : List ℕ
    lower = filter (is_among past) (range_with_len next below_it)

    abbrev upper : List ℕ
    upper = filter (is_among past) (range_with_len (next + below_it + 1) above_it)

    abbrev both_sides : ℕ
    both_sides = below_it + suc above_it

    parts-of : filter (is_among past) (range_with_len next both_sides) ≡ lower ++ upper
    parts-of = let e : next + below_it ≡ miss.number = omega (arith, miss.low) in
        filter-missing (is_among past) next below_it above_it (ap (is_among past) e ∙ miss.missing)

    held-parts : s.held ≡ map (packet sender) (lower ++ upper)
    held-parts =
        let n : first + count - next ≡ both_sides = omega (arith, same_end, miss.low, miss.high) in
        is.held ∙ ap (map (packet sender)) (ap (λ k. filter (is_among past) (range_with_len next k)) n ∙ parts-of)

    none-is : (k : ℕ) → k < length (lower ++ upper) → get_or (lower ++ upper) k 0 ≢ miss.number
    none-is k h e =
        let passes : is_among past (get_or (lower ++ upper) k 0) ≡ true =
        subst (λ (xs : List ℕ). (k : ℕ) → k < length xs → is_among past (get_or xs k 0) ≡ true) parts-of
        (filter-passes (is_among past) next both_sides) k h in
        true≢false (sym passes ∙ ap (is_among past) e ∙ miss.missing)

    few-upper : length upper ≤ reach_below
    few-upper =
        let e : next + below_it ≡ miss.number = omega (arith, miss.low) in
        subst (λ (n : ℕ). length (filter (is_among past) (range_with_len (n + 1) above_it)) ≤ reach_below) (sym e)
        (few-above past miss.number above_it s.window is.window (omega (arith, is.from_first, miss.low))
        miss.missing)

    due-by : (cutoff : Option ℕ) → s.cutoff ≡ cutoff
        → due_frame format cutoff s.holding.hold_back (map (packet sender) (lower ++ upper)) ≡ None
    due-by None e =
        let begins : next ≡ first = subst (CutoffIs first next) e is.cutoff in
        let opens : length f.packets ≡ opening = is.unopened e in
        absurd (true≢false (sym (ap₂ (has_come past) begins opens ∙ good.begun) ∙ lacks))
    due-by (Some c) e =
        let behind : c + 1 ≡ next = subst (CutoffIs first next) e is.cutoff in
        elim good.held_back [
          | inl enough ↦ none-due format sender next f sent frame miss.number miss.low miss.high lower upper
              (Rises-filter (is_among past) next below_it miss.number (omega (arith, miss.low))) none-is c
              s.holding.hold_back behind (omega (arith, few-upper))
          | inr all ↦ absurd (true≢false (sym (all miss.number (omega (arith, is.from_first, miss.low))
              (omega (arith, miss.high, same_end))) ∙ miss.missing))
        ]

    due-missing : due format s ≡ None
    unfolding due
    due-missing = ap (λ (ps : List Packet). due_frame format s.cutoff s.holding.hold_back ps) held-parts
        ∙ due-by s.cutoff refl

  -- a poll if nothing is left
  pub due-ended : (past : List ℕ) (next : ℕ) (s : Stream) → IsReached past next [] s → next ≡ first + count
      → due format s ≡ None
  unfolding due
  due-ended past next s is e =
      let n : first + count - next ≡ 0 = omega arith in
      let none : s.held ≡ [] = is.held ∙ ap (λ k. map (packet sender)
      (filter (is_among past) (range_with_len next k))) n in
      ap (λ (ps : List Packet). due_frame format s.cutoff s.holding.hold_back ps) none
      ∙ none-held format s.cutoff s.holding.hold_back

  pub holding-taken : (s : Stream) (x : ℕ) (c : Content) → (taken_by s x c).holding ≡ s.holding
  holding-taken s x c = elim (is_accepted s.window x) as
      (λ b. (if b then record {
        holding = s.holding;
        window = Some (recorded_in s.window x);
        held =
            pushed s.holding.held s.cutoff s.held (packet_of x c);
        cutoff = s.cutoff;
        fragment = s.fragment;
      } else s).holding
      ≡ s.holding) [ true ↦ refl | false ↦ refl ]

  abbrev pub Exact : ℕ → List SentFrame → List Answer → Type 0
  Exact next fs os = AreWhole (handed_out os) (canonical_from next fs)

  all-came : (past : List ℕ) (next : ℕ) (f : SentFrame) (fs : List SentFrame) → AllCame first count past
      → first ≤ next → next + total (sizes (f ∷ fs)) ≡ first + count → has_come past next (length f.packets) ≡ true
  all-came past next f fs all low same_end =
      all-passed (is_among past) next (length f.packets) (λ y a b. all y (omega arith) (omega arith))

  -- a poll, by whether the next frame came
  poll-by : (past : List ℕ) (next : ℕ) (f : SentFrame) (fs : List SentFrame) (s : Stream) (holding : Holding)
      (ts : List Turn) →
      ((next : ℕ) (fs : List SentFrame) (s : Stream) → IsReached past next (sizes fs) s → AreBrought sender next fs
      → AreFrames format fs → next + total (sizes fs) ≡ first + count → s.holding ≡ holding →
      IsTame first count holding opening past next (sizes fs) (ts ++ Ask ∷ [])
      → poll_answer format (after_events format s (map (event_of sender) ts)) ≡ Ok None
      → Exact next fs (heard format s (map (event_of sender) ts))) →
      IsReached past next (sizes (f ∷ fs)) s → AreBrought sender next (f ∷ fs) → AreFrames format (f ∷ fs)
      → next + total (sizes (f ∷ fs)) ≡ first + count → s.holding ≡ holding →
      IsTame first count holding opening past next (sizes (f ∷ fs)) (Ask ∷ (ts ++ Ask ∷ []))
      → poll_answer format (after_events format (polled format s) (map (event_of sender) ts)) ≡ Ok None →
      (b : Bool) → has_come past next (length f.packets) ≡ b
      → Exact next (f ∷ fs) (poll_answer format s ∷ heard format (polled format s) (map (event_of sender) ts))
  poll-by past next f fs s holding ts ih is sent frames same_end keeps tame silent true e =
      let size : ℕ = length f.packets in
      let due-it : due format s ≡ Some (front size) = due-next past next f fs s is sent.0 frames.0 same_end e in
      let after : polled format s ≡ stream_behind format s (Some (front size)) =
      polled-is format s (Some (front size)) due-it in
      let rest : IsTame first count holding opening past (next + size) (sizes fs) (ts ++ Ask ∷ []) = rw e at tame.1 in
      let more : Exact (next + size) fs (heard format (stream_behind format s (Some (front size)))
      (map (event_of sender) ts)) =
      ih (next + size) fs (stream_behind format s (Some (front size)))
      (after-next past next f fs s is sent.0 frames.0 same_end e) sent.1 frames.1 (omega (arith, same_end)) keeps
      rest (rw after at silent) in
      rw (answer-next past next f fs s is sent.0 frames.0 same_end e, after)
      (whole-next past next f fs s is sent.0 frames.0 same_end e, more)
  poll-by past next f fs s holding ts ih is sent frames same_end keeps tame silent false e =
      let good : IsGoodPoll first count s.holding.hold_back past opening = rw keeps tame.0 in
      let none : due format s ≡ None = due-missing past next f fs s is sent.0 frames.0 same_end good e in
      let after : polled format s ≡ s = polled-is format s None none in
      let rest : IsTame first count holding opening past next (sizes (f ∷ fs)) (ts ++ Ask ∷ []) = rw e at tame.1 in
      rw (poll_answer-is format s None none, after)
      (ih next (f ∷ fs) s is sent frames same_end keeps rest (rw after at silent))

  -- what is handed out is exactly the units that are left
  pub tame-exact : (holding : Holding) (ts : List Turn) (past : List ℕ) (next : ℕ) (fs : List SentFrame) (s : Stream)
      → IsReached past next (sizes fs) s → AreBrought sender next fs → AreFrames format fs → next + total (sizes fs)
      ≡ first + count → s.holding ≡ holding →
      IsTame first count holding opening past next (sizes fs) (ts ++ Ask ∷ [])
      → poll_answer format (after_events format s (map (event_of sender) ts)) ≡ Ok None
      → Exact next fs (heard format s (map (event_of sender) ts))
  tame-exact holding [] past next [] s is sent frames same_end keeps tame silent = tt
  tame-exact holding [] past next (f ∷ fs) s is sent frames same_end keeps tame silent =
      let came : has_come past next (length f.packets) ≡ true =
      all-came past next f fs (ended past next (length f.packets) (sizes fs) tame.1) is.from_first same_end in
      let never : Ok None ≡ Ok (Some (unit-next past next f fs s is sent.0 frames.0 same_end came)) =
      sym silent ∙ answer-next past next f fs s is sent.0 frames.0 same_end came in
      cc
    where
      ended : (past : List ℕ) (next z : ℕ) (zs : List ℕ)
          → IsTame first count holding opening past (next_after past next (z ∷ zs)) (left_after past next (z ∷ zs))
          [] → AllCame first count past
      ended past next z zs all = all
  tame-exact holding (Arrive x ∷ ts) past next fs s is sent frames same_end keeps tame silent =
      tame-exact holding ts (x ∷ past) next fs (taken_by s (hearing.number_at s (x % 65536)) (sender x))
      (arrives past next (sizes fs) s x is tame.0 (rw keeps tame.1)) sent frames same_end (holding-taken s _ _ ∙ keeps)
      tame.2 silent
  tame-exact holding (Ask ∷ ts) past next [] s is sent frames same_end keeps tame silent =
      let none : due format s ≡ None = due-ended past next s is (omega (arith, same_end)) in
      let after : polled format s ≡ s = polled-is format s None none in
      let still : poll_answer format (after_events format (polled format s) (map (event_of sender) ts)) ≡ Ok None =
      silent in
      rw (poll_answer-is format s None none, after)
      (tame-exact holding ts past next [] s is sent frames same_end keeps tame.1 (rw after at still))
  tame-exact holding (Ask ∷ ts) past next (f ∷ fs) s is sent frames same_end keeps tame silent =
      poll-by past next f fs s holding ts (λ next fs s. tame-exact holding ts past next fs s) is sent frames
      same_end keeps tame silent (has_come past next (length f.packets)) refl

  nothing-came : (lo m : ℕ) → filter (is_among []) (range_with_len lo m) ≡ []
  nothing-came lo zero = refl
  nothing-came lo (suc m) = nothing-came (lo + 1) m

  pub fresh-reached : (holding : Holding) (left : List ℕ) → first_size left ≡ opening
      → IsReached [] first left (fresh holding)
  fresh-reached holding left opens = record {
    window = tt;
    held = rw (nothing-came first (first + count - first)) refl;
    cutoff = refl;
    unopened = λ e. opens;
    closed = refl;
    passed = λ y a b. absurd (omega arith);
    from_first = omega arith;
    within = λ y e. absurd (true≢false (sym e));
  }

pub exact : (format : Format) (holding : Holding) (first : ℕ) (fs : List SentFrame) (turns : List Turn)
    → AreFrames format fs
    → first + total (sizes fs) ≤ 2 ^ 62 →
    IsTame first (total (sizes fs)) holding (first_size (sizes fs)) [] first (sizes fs) (turns ++ Ask ∷ []) →
    poll_answer format (after_events format (fresh holding) (map (event_of (sender_of first fs)) turns)) ≡ Ok None →
    AreWhole (handed_out (heard format (fresh holding) (map (event_of (sender_of first fs)) turns)))
    (canonical_from first fs)
exact format holding first fs turns frames fits tame silent =
    tame-exact format (sender_of first fs) first (total (sizes fs)) (first_size (sizes fs)) fits holding turns []
    first fs (fresh holding)
    (fresh-reached format (sender_of first fs) first (total (sizes fs)) (first_size (sizes fs)) fits holding
    (sizes fs) refl) (sender-brings first fs) frames refl refl tame silent
