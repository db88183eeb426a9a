-- What httparse answers, in the words of a frame's head.
use Rattle.std.proofs.Common.{◌≡◌, ℕ, List, ◌++◌, length, take, drop, sym, ap, ◌∙◌, arith}
use Rattle.std.proofs.lemmas.List.{take_at, length-map}
use Rattle.httparse.specs.declared.spans.HeaderSpan.{HeaderSpan}
use Rattle.httparse.specs.declared.spans.RequestSpans.{RequestSpans}
use Rattle.httparse.specs.declared.spans.ResponseSpans.{ResponseSpans}
use Rattle.httparse.specs.Grammar.{print_request, print_response, HasNoRequest, HasNoResponse}
use Rattle.httparse.specs.Spans.{name_and_value, IsRequestWithin, IsRequestOf, IsResponseWithin, IsResponseOf, RequestOverflows, ResponseOverflows}
use Rattle.http_frames.specs.declared.frame.Side.TheVariants.{Request, Reply}
use Rattle.http_frames.specs.declared.head.StartSpans.TheVariants.{Ask, Answer}
use Rattle.http_frames.specs.Spans.{IsHeadAt, HasNoHead, HeadExceeds}

pub request_at : (bytes : List ℕ) (headers : List HeaderSpan) (r : RequestSpans)
    → IsRequestWithin bytes headers r → IsRequestOf bytes headers r
    → IsHeadAt Request bytes headers (record { start = Ask r.method r.path r.version; lines = r.headers; len = r.len })
request_at bytes headers r within (h, at) = record {
  is_head = record {
    head = h;
    valid = at.reads.0;
    text_is = ap (take r.len) at.reads.1 ∙ take_at (print_request h) (drop r.len bytes) r.len (sym at.len);
    start_is = cc (at.method, at.path, at.version);
    lines_are = at.fields;
  };
  start_fits = (within.method, within.path);
  lines_fit = within.section;
}

pub reply_at : (bytes : List ℕ) (headers : List HeaderSpan) (r : ResponseSpans)
    → IsResponseWithin bytes headers r → IsResponseOf bytes headers r
    → IsHeadAt Reply bytes headers (record { start = Answer r.code r.version; lines = r.headers; len = r.len })
reply_at bytes headers r within (h, at) = record {
  is_head = record {
    head = h;
    valid = at.reads.0;
    text_is = ap (take r.len) at.reads.1 ∙ take_at (print_response h) (drop r.len bytes) r.len (sym at.len);
    start_is = cc (at.code, at.version);
    lines_are = at.fields;
  };
  start_fits = tt;
  lines_fit = within.section;
}

pub no_request : (bytes : List ℕ) → HasNoRequest bytes → HasNoHead Request bytes
no_request bytes none = record { none = λ text rest start lines h e. none h.head rest (h.valid, e ∙ ap (λ t. t ++ rest) h.text_is) }

pub no_reply : (bytes : List ℕ) → HasNoResponse bytes → HasNoHead Reply bytes
no_reply bytes none = record { none = λ text rest start lines h e. none h.head rest (h.valid, e ∙ ap (λ t. t ++ rest) h.text_is) }

pub request_exceeds : (room : ℕ) (bytes : List ℕ) → RequestOverflows room bytes → HeadExceeds Request room bytes
request_exceeds room bytes over = record {
  exceeds = λ more text rest start lines h e.
      let many = over more h.head rest (h.valid, e ∙ ap (λ t. t ++ rest) h.text_is) in
      let count : length lines ≡ length h.head.fields = ap length h.lines_are ∙ length-map h.head.fields name_and_value in
      omega arith;
}

pub reply_exceeds : (room : ℕ) (bytes : List ℕ) → ResponseOverflows room bytes → HeadExceeds Reply room bytes
reply_exceeds room bytes over = record {
  exceeds = λ more text rest start lines h e.
      let many = over more h.head rest (h.valid, e ∙ ap (λ t. t ++ rest) h.text_is) in
      let count : length lines ≡ length h.head.fields = ap length h.lines_are ∙ length-map h.head.fields name_and_value in
      omega arith;
}

-- how a look for the head of a request goes
pub ruleset request_cases = (request_at, no_request, request_exceeds)

-- how a look for the head of a reply goes
pub ruleset reply_cases = (reply_at, no_reply, reply_exceeds)
