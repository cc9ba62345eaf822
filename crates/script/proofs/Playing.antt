-- The lines of a script, played one after the other.
use Rattle.script.proofs.Common.{◌≡◌, ◌<◌, ◌+◌, ℕ, List, [], ◌∷◌, ◌++◌, Option, ap, subst, sym, refl, ◌∙◌, take, length, get_or, append_assoc, append-nil, take_more, IsEmpty, Label, Reply, ManagerView, line_end, Line, Style, Given, AreLinesTold, Between, IsAllTaken, IsLineTold, IsTold, IsToldTo, Prints, all_taken, line_text, labels_text, reply_line, Transcript, Trace, Tells, without_bytes}
use Rattle.std.specs.Prelude.{codes}
use Rattle.std.specs.Io.KnownBytes.{Keeps as KeepsBytes, append_known}
use Rattle.io_manager.specs.declared.Reply.TheVariants.{Handle as HandleReply, Ok as OkReply, Request as Requested, Answered, Refused, Ignored}
use Rattle.script.specs.Events.{Keeps}
use Rattle.script.proofs.Printed.{both, more_waits, nothing, stays}

-- A LINE

-- a text of this kind stands behind an older one
pub record Adds (old new : List ℕ) (Is : List ℕ → Type 0) : Type 0 where
  pub text : List ℕ
  pub is : Is text
  pub appends : new ≡ old ++ text

-- a reply says the same without the bytes that a refused call gives back
same_line : (shown reply : Reply) → without_bytes shown ≡ without_bytes reply → reply_line shown ≡ reply_line reply
same_line shown reply alike = bare_line shown ∙ ap reply_line alike ∙ sym (bare_line reply)
  where
    bare_line : (r : Reply) → reply_line r ≡ reply_line (without_bytes r)
    bare_line (HandleReply handle) = refl
    bare_line OkReply = refl
    bare_line (Requested id) = refl
    bare_line (Answered answer) = refl
    bare_line (Refused reason bytes) = refl
    bare_line Ignored = refl

same_kept : (shown reply : Reply) (old new : Given) → without_bytes shown ≡ without_bytes reply → Keeps shown old new → Keeps reply old new
same_kept shown reply old new alike keeps = back reply (subst (λ (r : Reply). Keeps r old new) alike (there shown keeps))
  where
    there : (r : Reply) → Keeps r old new → Keeps (without_bytes r) old new
    there (HandleReply handle) h = h
    there OkReply h = h
    there (Requested id) h = h
    there (Answered answer) h = h
    there (Refused reason bytes) h = h
    there Ignored h = h

    back : (r : Reply) → Keeps (without_bytes r) old new → Keeps r old new
    back (HandleReply handle) h = h
    back OkReply h = h
    back (Requested id) h = h
    back (Answered answer) h = h
    back (Refused reason bytes) h = h
    back Ignored h = h

same_text : (style : Style) (line : Line) (shown reply : Reply) (labels : List Label) → without_bytes shown ≡ without_bytes reply
    → line_text style line shown labels ≡ line_text style line reply labels
same_text Transcript line shown reply labels alike =
    ap (λ (l : List ℕ). (codes "> " ++ (line.text.now ++ line_end)) ++ (l ++ labels_text Transcript labels)) (same_line shown reply alike)
same_text Trace line shown reply labels alike = refl

module _ (style : Style) where
  -- what is told of a line
  pub line_played : (old new : Between) (line : Line) (shown : Reply) (stepped : ManagerView) (a b : List ℕ) → Tells old.given line.order old.stack shown stepped
      → Keeps shown old.given new.given → new.stack ≡ all_taken stepped → b ≡ a ++ line_text style line shown stepped.labels → Adds a b (λ text. IsLineTold style old line text new)
  line_played old new line shown stepped a b told keeps gone written =
      let reply : Reply = told.carried.0 in
      let alike : without_bytes shown ≡ without_bytes reply = told.carried.2 in
      record {
        text = line_text style line reply stepped.labels;
        is = record {
          reply = reply;
          stepped = stepped;
          carried = told.carried.1;
          told = refl;
          taken = gone;
          keeps = same_kept shown reply old.given new.given alike keeps;
        };
        appends = written ∙ ap (λ (l : List ℕ). a ++ l) (same_text style line shown reply stepped.labels alike);
      }

  -- after a line all labels and answers are taken, and the rules are the same
  pub none_waits : (old new : Between) (line : Line) (text : List ℕ) → IsLineTold style old line text new → IsAllTaken new.stack
  none_waits old new line text h = record { labels = ap (λ (v : ManagerView). v.labels) h.taken; answers = ap (λ (v : ManagerView). v.answers) h.taken }

  -- ALL LINES

  -- one line more
  played_more : (old : Between) (lines : List Line) (text : List ℕ) (mid : Between) (line : Line) (more : List ℕ) (new : Between) → AreLinesTold style old lines text mid
      → IsLineTold style mid line more new → AreLinesTold style old (lines ++ line ∷ []) (text ++ more) new
  played_more old [] text mid line more new h one =
      let start : IsLineTold style old line more new = subst (λ (b : Between). IsLineTold style b line more new) h.1 one in
      (more, [], new, start, (refl, refl), ap (λ (t : List ℕ). t ++ more) h.0 ∙ sym (append-nil more))
  played_more old (next ∷ lines) text mid line more new h one =
      (h.0, h.1 ++ more, h.2, h.3, played_more h.2 lines h.1 mid line more new h.4 one, ap (λ (t : List ℕ). t ++ more) h.5 ∙ append_assoc h.0 h.1 more)

  pub none_played : (stack : ManagerView) (given : Given) (known : Option (List ℕ)) → IsEmpty given.handles → given.requests.items ≡ []
      → Prints known known (λ text. IsToldTo style stack [] text (record { stack = stack; given = given }))
  none_played stack given known no_handle no_request = record {
    text = [];
    is = record { given = given; no_handle = no_handle; no_request = no_request; told = (refl, refl) };
    appends = nothing known;
  }

  pub one_played : (stack : ManagerView) (lines : List Line) (i : ℕ) (d : Line) (mid new : Between) (a b c : Option (List ℕ)) → i < length lines
      → Prints a b (λ text. IsToldTo style stack (take i lines) text mid) → Prints b c (λ text. IsLineTold style mid (get_or lines i d) text new)
      → Prints a c (λ text. IsToldTo style stack (take (i + 1) lines) text new)
  one_played stack lines i d mid new a b c inside h one = record {
    text = h.text ++ one.text;
    is = record {
      given = h.is.given;
      no_handle = h.is.no_handle;
      no_request = h.is.no_request;
      told =
          subst (λ (ls : List Line). AreLinesTold style (record { stack = stack; given = h.is.given }) ls (h.text ++ one.text) new) (sym (take_more lines i d inside))
          (played_more (record { stack = stack; given = h.is.given }) (take i lines) h.text mid (get_or lines i d) one.text new h.is.told one.is);
    };
    appends = both a b c h.text one.text h.appends one.appends;
  }

  -- the same where a block may have been written before, and the text of the line waits
  pub one_waits : (stack : ManagerView) (lines : List Line) (i : ℕ) (d : Line) (mid new : Between) (a b held : Option (List ℕ)) (text more : List ℕ) → i < length lines
      → Prints a b (λ told. IsToldTo style stack (take i lines) told mid) → KeepsBytes b (append_known held text)
      → Adds text more (λ told. IsLineTold style mid (get_or lines i d) told new) → Prints a (append_known held more) (λ told. IsToldTo style stack (take (i + 1) lines) told new)
  one_waits stack lines i d mid new a b held text more inside h keeps one =
      one_played stack lines i d mid new a (append_known held text) (append_known held more) inside
      (stays a b (append_known held text) (λ told. IsToldTo style stack (take i lines) told mid) h keeps)
      (record { text = one.text; is = one.is; appends = more_waits held text more one.text one.appends })

  -- all lines
  pub all_played : (stack : ManagerView) (lines : List Line) (i : ℕ) (end : Between) (a b : Option (List ℕ)) → take i lines ≡ lines
      → Prints a b (λ text. IsToldTo style stack (take i lines) text end) → Prints a b (λ text. IsTold style stack lines text end.stack)
  all_played stack lines i end a b all h = record {
    text = h.text;
    is = (end, subst (λ (ls : List Line). IsToldTo style stack ls h.text end) all h.is, refl);
    appends = h.appends;
  }
