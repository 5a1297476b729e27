-- The code (gRPC, "Status codes and their use in gRPC") and the text of each refusal.
use Rattle.std.specs.Prelude.{ℕ, List, codes}
use Rattle.rpc.specs.declared.refusal.Refusal.{Refusal}
use Rattle.rpc.specs.declared.refusal.Refusal.TheVariants.{UnknownMethod, CompressedMessage, MessageTooLarge, MessageCutOff, NoMessage, MoreThanOneMessage, MalformedMessage, UnknownInstance, UnsupportedDigestFunction, UnsupportedCompressor, BadDigest, BatchTooLarge, DigestDoesNotMatch, QuotaExceeded, BlobNotFound, BadResourceName, NegativeLimit, OffsetOutOfRange, WrongOffset, TooManyUploads, UploadNotFound, BadPage, BadDirectory, TreeTooLarge, NoResult, ExecutionIsOff, QueueFull, UnknownOperation}

-- how many codes gRPC has: from 0, OK, to 16, UNAUTHENTICATED
abbrev pub code_count : ℕ
code_count = 17

abbrev pub invalid_argument : ℕ
invalid_argument = 3

abbrev pub not_found : ℕ
not_found = 5

abbrev pub resource_exhausted : ℕ
resource_exhausted = 8

abbrev pub out_of_range : ℕ
out_of_range = 11

abbrev pub unimplemented : ℕ
unimplemented = 12

abbrev pub internal : ℕ
internal = 13

abbrev pub code_of : Refusal → ℕ
code_of UnknownMethod = unimplemented
code_of CompressedMessage = unimplemented
code_of MessageTooLarge = resource_exhausted
code_of MessageCutOff = internal
code_of NoMessage = invalid_argument
code_of MoreThanOneMessage = invalid_argument
code_of MalformedMessage = invalid_argument
code_of UnknownInstance = not_found
code_of UnsupportedDigestFunction = invalid_argument
code_of UnsupportedCompressor = invalid_argument
code_of BadDigest = invalid_argument
code_of BatchTooLarge = invalid_argument
code_of DigestDoesNotMatch = invalid_argument
code_of QuotaExceeded = resource_exhausted
code_of BlobNotFound = not_found
code_of BadResourceName = invalid_argument
code_of NegativeLimit = invalid_argument
code_of OffsetOutOfRange = out_of_range
code_of WrongOffset = invalid_argument
code_of TooManyUploads = resource_exhausted
code_of UploadNotFound = not_found
code_of BadPage = invalid_argument
code_of BadDirectory = invalid_argument
code_of TreeTooLarge = resource_exhausted
code_of NoResult = not_found
code_of ExecutionIsOff = unimplemented
code_of QueueFull = resource_exhausted
code_of UnknownOperation = not_found

abbrev pub text_of : Refusal → List ℕ
text_of UnknownMethod = codes "unknown method"
text_of CompressedMessage = codes "compressed message"
text_of MessageTooLarge = codes "message too large"
text_of MessageCutOff = codes "message cut off"
text_of NoMessage = codes "no message"
text_of MoreThanOneMessage = codes "more than one message"
text_of MalformedMessage = codes "malformed message"
text_of UnknownInstance = codes "unknown instance"
text_of UnsupportedDigestFunction = codes "unsupported digest function"
text_of UnsupportedCompressor = codes "unsupported compressor"
text_of BadDigest = codes "bad digest"
text_of BatchTooLarge = codes "batch too large"
text_of DigestDoesNotMatch = codes "digest does not match"
text_of QuotaExceeded = codes "quota exceeded"
text_of BlobNotFound = codes "blob not found"
text_of BadResourceName = codes "bad resource name"
text_of NegativeLimit = codes "negative limit"
text_of OffsetOutOfRange = codes "offset out of range"
text_of WrongOffset = codes "wrong offset"
text_of TooManyUploads = codes "too many uploads"
text_of UploadNotFound = codes "upload not found"
text_of BadPage = codes "bad page"
text_of BadDirectory = codes "bad directory"
text_of TreeTooLarge = codes "tree too large"
text_of NoResult = codes "no result"
text_of ExecutionIsOff = codes "execution is off"
text_of QueueFull = codes "queue full"
text_of UnknownOperation = codes "unknown operation"
