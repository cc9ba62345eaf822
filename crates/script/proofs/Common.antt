-- What the proofs of this crate import, in one place.
pub use Rattle.compose.specs.StepLaws.{ComeToWait, IsSaidAlone, StepsKeepRules, StepsLeaveAnswers, answers_in}
pub use Rattle.io_manager.specs.Right.{AreRising, FitsTogether, IsAbove, Refuses, TakesAnswer, TakesShown, answer_number}
pub use Rattle.io_manager.specs.Shown.{ManagerView}
pub use Rattle.io_manager.specs.declared.Answer.{Answer}
pub use Rattle.io_manager.specs.declared.Asked.{Asked}
pub use Rattle.io_manager.specs.declared.Refusal.{Refusal}
pub use Rattle.io_manager.specs.declared.Reply.{Reply}
pub use Rattle.io_manager.specs.declared.Reply.TheVariants.{Refused}
pub use Rattle.label_text.specs.Lines.{Words, kind_word, line_end, short_extent, short_line_of}
pub use Rattle.machine.proofs.Permuting.{IsPermutation-uncons}
pub use Rattle.machine.specs.Bare.{in_memory, request_in_memory}
pub use Rattle.machine.specs.Rules.{Rules}
pub use Rattle.machine.specs.declared.ClientRequest.{ClientRequest}
pub use Rattle.machine.specs.declared.Label.{Label}
pub use Rattle.script.specs.Events.{AreNamed, handle_of}
pub use Rattle.script.specs.Printing.{label_line, labels_text, reply_line}
pub use Rattle.script.specs.Script.{AreEvents, Argument, Asks, Byte, Finds, FirstSpells, IsBad, IsByte, IsFirstBad, IsLine, IsNumber, Length, Number, Spells, is_event, lines_of, request_of, through_of, trimmed, verb_of, without_spaces, words_of}
pub use Rattle.script.specs.Trace.{AreLinesTold, Between, IsAllTaken, IsCarriedOut, IsLineTold, IsTold, IsToldTo, Prints, all_taken, line_text}
pub use Rattle.script.specs.declared.Line.{Line}
pub use Rattle.script.specs.declared.Order.{Order}
pub use Rattle.script.specs.declared.Style.{Style}
pub use Rattle.script.specs.declared.Style.TheVariants.{Trace, Transcript}
pub use Rattle.script.specs.declared.given.Given.{Given}
pub use Rattle.script.specs.inside.Answers.{GoWith, HasBytesOf, IsCarriedOutFor, Tells, answered_by, asked_by, first_bytes, left_by, without_bytes}
pub use Rattle.script.specs.inside.Cuts.{AreWorth, IsCut, IsLonger}
pub use Rattle.srb.specs.declared.Kind.{Kind}
pub use Rattle.std.proofs.Common.{Bool, Bor, Err, IfSome, List, None, Ok, Option, Result, Some, [], ap, arith, cond, drop, false, filter, get_or, inl, inr, length, map, not, refl, replicate, reverse, rules, slice_get, slice_index, subst, suc, sym, take, true, zero, ℕ, ◌*◌, ◌++◌, ◌+◌, ◌-◌, ◌<◌, ◌==◌, ◌^◌, ◌∙◌, ◌∷◌, ◌≡◌, ◌≤◌, ◌⊎◌}
pub use Rattle.std.proofs.lemmas.Grind.{common_steps}
pub use Rattle.std.proofs.lemmas.Int.Digits.{digits_more, digits_value_more}
pub use Rattle.std.proofs.lemmas.List.{append-nil, append_assoc, drop_all, length-append, length-map, length-replicate, length-take, map-append, nil_from_length, reverse-append, reverse-reverse, take-append-drop, take_all, take_more}
pub use Rattle.std.proofs.lemmas.List.Elements.{All-cons, All-head, All-nil, All-tail, filter-append}
pub use Rattle.std.proofs.lemmas.List.Sorted.{Contains-permutation, IsPermutation-sym, length_permutation}
pub use Rattle.std.proofs.lemmas.List.Splits.{length-slice_split, slice_split_first}
pub use Rattle.std.proofs.lemmas.List.Sums.{passes_at_first, prefix_len-le-length}
pub use Rattle.std.proofs.lemmas.Str.{IsCharBoundary-after_ascii, IsCharBoundary-before_ascii, encode_ascii}
pub use Rattle.std.proofs.lemmas.Str.Parse.{digits_value-take-le}
pub use Rattle.std.proofs.lemmas.Str.Pattern.{drop_at_char}
pub use Rattle.std.specs.BTreeMap.{IsEmpty}
pub use Rattle.std.specs.Bool.{then_some}
pub use Rattle.std.specs.Char.{digit_value}
pub use Rattle.std.specs.Fmt.{decimal}
pub use Rattle.std.specs.Io.KnownBytes.{append_known}
pub use Rattle.std.specs.List.{AllZip, after_first, before_first, join_with_byte, onto_first, position, position_or_len, slice_split}
pub use Rattle.std.specs.Prelude.{IsPermutation}
pub use Rattle.std.specs.Result.{OkIff, result_ok}
pub use Rattle.std.specs.Str.{IsCharBoundary, IsUtf8}
pub use Rattle.std.specs.Str.Lines.{lines, lines_of_parts, strip_carriage_return}
pub use Rattle.std.specs.Str.Parse.{AllDigits, IsNumeral, ParsesUnsigned, digits_value, without_leading_plus}
pub use Rattle.std.specs.Str.Pattern.{CutsPrefixes, CutsSuffixes, FindsCharPrefix, FindsCharSuffix, IsFullyTrimmed, IsTrimEndMatches, IsTrimStartMatches}
