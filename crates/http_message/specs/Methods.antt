-- The methods of requests, and which of them a listener takes (RFC 9110, 9).
use Rattle.std.specs.Prelude.{ℕ, Bool, true, false, List, [], ◌∷◌, ◌++◌, map, filter}
use Rattle.std.specs.Prelude.{Option, Some, None, if◌then◌else◌, codes, bytes_eq}
use Rattle.http_message.specs.declared.method.Method.{Method}
use Rattle.http_message.specs.declared.method.Method.TheVariants.{Post, Get, Head}
use Rattle.http_message.specs.declared.methods.Methods.{Methods}
use Rattle.http_message.specs.declared.methods.Methods.TheVariants as listeners

-- the name of a method
abbrev pub name_of : Method → List ℕ
name_of Post = codes "POST"
name_of Get = codes "GET"
name_of Head = codes "HEAD"

-- the method of a name, in its case
abbrev pub method_named : List ℕ → Option Method
method_named name =
    if bytes_eq name (name_of Post) then Some Post
    else (if bytes_eq name (name_of Get) then Some Get
    else (if bytes_eq name (name_of Head) then Some Head else None))

-- a listener takes a method
abbrev pub takes : Methods → Method → Bool
takes listeners.Post Post = true
takes listeners.PostOrGet Post = true
takes listeners.PostOrGet Get = true
takes listeners.GetOrHead Get = true
takes listeners.GetOrHead Head = true
takes _ _ = false

-- a method, if the listener takes it
abbrev pub if_taken : Methods → Option Method → Option Method
if_taken methods None = None
if_taken methods (Some method) = if takes methods method then Some method else None

-- the method of a name, if the listener takes it
abbrev pub method_of : Methods → List ℕ → Option Method
method_of methods name = if_taken methods (method_named name)

-- names, as RFC 9110 lists them
abbrev pub method_list : List (List ℕ) → List ℕ
method_list [] = []
method_list (name ∷ []) = name
method_list (name ∷ other ∷ more) = name ++ codes ", " ++ method_list (other ∷ more)

-- the line that names the methods that a listener takes
abbrev pub allow_line : Methods → List ℕ
allow_line methods =
    codes "Allow: " ++ method_list (map name_of (filter (takes methods) (Post ∷ Get ∷ Head ∷ [])))
    ++ codes "\r\n"
